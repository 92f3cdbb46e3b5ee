use Rattle.std.proofs.Common.{◌<◌, ℕ, length, set, ap, ◌∙◌, sym, subst, arith, get_or}
use Rattle.std.specs.Prelude.{remove}
use Rattle.mm_indexed.specs.Kept.{StoredRows}
use Rattle.mm_store.specs.Marks.{KeepsMarks}
use Rattle.mm_store.specs.Tables.{IsAt, Tables, Turns, tables_of}
use Rattle.mm_store.proofs.ListedTables.{at_place, index_dropped, length-tables, marks_kept, size_from_state, turns}
use Rattle.mm_tables.specs.Tables.{Stored}
use Rattle.mm_store.proofs.store.Store.drop_index.Goals as goal

pub drop_index-requires-clause-index : goal.drop_index-requires-clause-index
drop_index-requires-clause-index c d =
    let old = c.self.inside.base in
    let within : c.args.table < length old.stored.tables =
    omega (arith, c.requires.there, ap (λ (s : Tables). length s.tables) c.self.view_is, length-tables old) in
    c.requires.index (get_or old.stored.tables c.args.table d).rows
    (subst (λ (s : Tables). IsAt s c.args.table (get_or old.stored.tables c.args.table d).rows) c.self.view_is (at_place old c.args.table d within))

pub returns-clause-tables : goal.returns-clause-tables
returns-clause-tables c stored at =
    let old = c.self.inside.base in
    let new = c.drop_index.new.self in
    let t : ℕ = c.args.table in
    let size = size_from_state old new c.drop_index.ensures.state in
    let others = c.drop_index.ensures.others in
    let inside : IsAt (tables_of old) t stored = subst (λ (s : Tables). IsAt s t stored) (sym c.self.view_is) at in
    subst (λ (s : Tables). Turns s t (record stored { indexes = remove stored.indexes c.args.index }) (tables_of new)) c.self.view_is
    (turns old new size t stored inside others
    ∙ ap (λ (rows : StoredRows). set (tables_of old).tables t rows)
    (index_dropped old new size t stored inside others c.args.index c.drop_index.ensures.dropped))

pub returns-clause-marks : goal.returns-clause-marks
returns-clause-marks c mark =
    let old = c.self.inside.base in
    let new = c.drop_index.new.self in
    subst (λ (s : Tables). KeepsMarks s (tables_of new) mark) c.self.view_is
    (marks_kept old new mark c.drop_index.ensures.keys (c.drop_index.ensures.marks mark)
    (λ low. omega (arith, low, ap (λ (s : Stored). length s.log) c.drop_index.ensures.rest)))
