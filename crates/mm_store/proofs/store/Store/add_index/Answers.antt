use Rattle.std.proofs.Common.{◌<◌, ℕ, length, ap, sym, subst, arith, get_or}
use Rattle.std.proofs.lemmas.Result.{on_ok_weaker}
use Rattle.mm_store.specs.Marks.{KeepsMarks}
use Rattle.mm_store.specs.Tables.{IsAt, Tables, Turns, tables_of}
use Rattle.mm_store.proofs.ListedTables.{at_place, index_added, length-tables, marks_kept, size_from_state, turned, turns}
use Rattle.mm_tables.specs.Tables.{Stored}
use Rattle.mm_store.proofs.store.Store.add_index.Goals as goal

pub add_index-requires-clause-column : goal.add_index-requires-clause-column
add_index-requires-clause-column c d =
    let old = c.self.inside.base in
    let within : c.args.table < length old.stored.tables =
    omega (arith, c.requires.there, ap (λ (s : Tables). length s.tables) c.self.view_is, length-tables old) in
    c.requires.column (get_or old.stored.tables c.args.table d).rows
    (subst (λ (s : Tables). IsAt s c.args.table (get_or old.stored.tables c.args.table d).rows) c.self.view_is (at_place old c.args.table d within))

pub returns-clause-ok : goal.returns-clause-ok
returns-clause-ok c =
    let old = c.self.inside.base in
    let new = c.add_index.new.self in
    let t : ℕ = c.args.table in
    let size = size_from_state old new c.add_index.ensures.state in
    let others = c.add_index.ensures.others in
    on_ok_weaker c.add_index.result
    (λ added stored at.
    let inside : IsAt (tables_of old) t stored = subst (λ (s : Tables). IsAt s t stored) (sym c.self.view_is) at in
    let both = index_added old new size t stored inside others c.args.column c.args.kind added in (
      turned old new size t stored inside others,
      subst (λ (s : Tables). Turns s t (turned old new size t stored inside others) (tables_of new)) c.self.view_is (turns old new size t stored inside others),
      both.0,
      both.1,
    ))
    c.add_index.ensures.added

pub returns-clause-marks : goal.returns-clause-marks
returns-clause-marks c mark =
    let old = c.self.inside.base in
    let new = c.add_index.new.self in
    subst (λ (s : Tables). KeepsMarks s (tables_of new) mark) c.self.view_is
    (marks_kept old new mark c.add_index.ensures.keys (c.add_index.ensures.marks mark)
    (λ low. omega (arith, low, ap (λ (s : Stored). length s.log) c.add_index.ensures.rest)))
