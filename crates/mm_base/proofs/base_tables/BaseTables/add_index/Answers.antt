use Rattle.std.proofs.Common.{ℕ, get_or, sym, ap, ap₂, ◌∙◌, subst}
use Rattle.std.specs.Prelude.{OnOk}
use Rattle.mm_tables.specs.Tables.{IndexAdded, at_mark, keys_of, state_of}
use Rattle.mm_tables.specs.declared.logged_table.LoggedTable.{LoggedTable}
use Rattle.mm_base.specs.Bases.{Base, rows_of_state}
use Rattle.mm_base.specs.Joined.{HaveEntriesFor}
use Rattle.mm_base.proofs.Indexing.{each_added, entries_stay, keys_stay, sound_stays}
use Rattle.mm_base.proofs.base_tables.BaseTables.add_index.Goals as goal

pub invariant_of-self : goal.invariant_of-self
invariant_of-self c =
    let old = c.self.inside.tables in
    let new = c.add_index.new.self in
    sound_stays old new c.self.inside.links.items c.add_index.ensures.rest c.add_index.ensures.state
    (each_added c.add_index.result c.args.column c.args.kind c.args.table old new c.add_index.ensures.added c.add_index.ensures.err c.add_index.ensures.others)
    c.self.invariant

pub returns-clause-added : goal.returns-clause-added
returns-clause-added c =
    let table : ℕ = c.args.table in
    subst (λ (s : Base). OnOk c.add_index.result ((d : LoggedTable)
    → IndexAdded c.args.column c.args.kind (get_or s.stored.tables table d) (get_or c.add_index.new.self.tables table d)))
    c.self.view_is c.add_index.ensures.added

pub returns-clause-keys : goal.returns-clause-keys
returns-clause-keys c =
    let old = c.self.inside.tables in
    let new = c.add_index.new.self in
    keys_stay old.tables new.tables c.add_index.ensures.state
    (each_added c.add_index.result c.args.column c.args.kind c.args.table old new c.add_index.ensures.added c.add_index.ensures.err c.add_index.ensures.others)
    ∙ ap (λ (s : Base). keys_of s.stored.tables) c.self.view_is

pub returns-clause-rows : goal.returns-clause-rows
returns-clause-rows c =
    ap₂ rows_of_state (returns-clause-keys c) (c.add_index.ensures.state ∙ ap (λ (s : Base). state_of s.stored.tables) c.self.view_is)

pub returns-clause-saved : goal.returns-clause-saved
returns-clause-saved c mark =
    ap₂ rows_of_state (returns-clause-keys c) (c.add_index.ensures.marks mark ∙ ap (λ (s : Base). at_mark s.stored mark) c.self.view_is)

pub returns-clause-entries : goal.returns-clause-entries
returns-clause-entries c t n have =
    let old = c.self.inside.tables in
    let new = c.add_index.new.self in
    entries_stay old.tables new.tables c.add_index.ensures.state
    (each_added c.add_index.result c.args.column c.args.kind c.args.table old new c.add_index.ensures.added c.add_index.ensures.err c.add_index.ensures.others)
    c.self.inside.links.items t n (subst (λ (s : Base). HaveEntriesFor n t s.stored.tables s.links) (sym c.self.view_is) have)
