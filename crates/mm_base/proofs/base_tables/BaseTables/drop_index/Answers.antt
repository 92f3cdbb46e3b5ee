use Rattle.std.proofs.Common.{sym, ap, ap₂, ◌∙◌, subst}
use Rattle.mm_tables.specs.Tables.{at_mark, keys_of, state_of}
use Rattle.mm_base.specs.Bases.{Base, rows_of_state}
use Rattle.mm_base.specs.Joined.{HaveEntriesFor}
use Rattle.mm_base.proofs.Indexing.{each_dropped, entries_stay, keys_stay, sound_stays}
use Rattle.mm_base.proofs.base_tables.BaseTables.drop_index.Goals as goal

pub invariant_of-self : goal.invariant_of-self
invariant_of-self c =
    let old = c.self.inside.tables in
    let new = c.drop_index.new.self in
    sound_stays old new c.self.inside.links.items c.drop_index.ensures.rest c.drop_index.ensures.state
    (each_dropped c.args.table old.tables new.tables c.drop_index.ensures.others c.args.index c.drop_index.ensures.dropped)
    c.self.invariant

pub returns-clause-keys : goal.returns-clause-keys
returns-clause-keys c =
    let old = c.self.inside.tables in
    let new = c.drop_index.new.self in
    keys_stay old.tables new.tables c.drop_index.ensures.state
    (each_dropped c.args.table old.tables new.tables c.drop_index.ensures.others c.args.index c.drop_index.ensures.dropped)
    ∙ ap (λ (s : Base). keys_of s.stored.tables) c.self.view_is

pub returns-clause-rows : goal.returns-clause-rows
returns-clause-rows c =
    ap₂ rows_of_state (returns-clause-keys c) (c.drop_index.ensures.state ∙ ap (λ (s : Base). state_of s.stored.tables) c.self.view_is)

pub returns-clause-saved : goal.returns-clause-saved
returns-clause-saved c mark =
    ap₂ rows_of_state (returns-clause-keys c) (c.drop_index.ensures.marks mark ∙ ap (λ (s : Base). at_mark s.stored mark) c.self.view_is)

pub returns-clause-entries : goal.returns-clause-entries
returns-clause-entries c t n have =
    let old = c.self.inside.tables in
    let new = c.drop_index.new.self in
    entries_stay old.tables new.tables c.drop_index.ensures.state
    (each_dropped c.args.table old.tables new.tables c.drop_index.ensures.others c.args.index c.drop_index.ensures.dropped)
    c.self.inside.links.items t n (subst (λ (s : Base). HaveEntriesFor n t s.stored.tables s.links) (sym c.self.view_is) have)
