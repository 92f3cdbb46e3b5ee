use Rattle.std.proofs.Common.{◌<◌, ◌+◌, length, get_or, sym, ap, ◌∙◌, subst, arith}
use Rattle.mm_tables.specs.Tables.{HasCapacity, HoldsAt, logged}
use Rattle.mm_tables.specs.declared.edit.Edit.TheVariants.{Stage}
use Rattle.mm_base.specs.Bases.{Base, rows_at_mark, rows_now}
use Rattle.mm_base.specs.Joined.{HaveEntriesFor}
use Rattle.mm_base.proofs.InBases.{rows_at_mark-kept, staged_lawful, staged_rows}
use Rattle.mm_base.proofs.Joining.{joined_staged}
use Rattle.mm_base.proofs.Staged.{entries_here, entries_other, staged_back}
use Rattle.mm_base.proofs.base_tables.BaseTables.stage.Goals as goal

pub invariant_of-self : goal.invariant_of-self
invariant_of-self c =
    let old = c.self.inside.tables in
    let new = c.stage.new.self in
    let links = c.self.inside.links.items in
    let within : c.args.table < length old.tables = omega (arith, c.requires.within, ap (λ (s : Base). length s.stored.tables) c.self.view_is) in
    let room : HaveEntriesFor 1 c.args.table old.tables links =
    subst (λ (s : Base). HaveEntriesFor 1 c.args.table s.stored.tables s.links) (sym c.self.view_is) c.requires.entries in
    record {
      lawful = staged_lawful old.tables new.tables c.stage.ensures.shapes c.args.table c.stage.result c.args.values.now
          c.stage.ensures.fresh c.stage.ensures.staged c.self.invariant.lawful;
      joined = λ k d inside.
          joined_staged old.tables new.tables c.stage.ensures.shapes (get_or links k d) c.args.table c.stage.result c.args.values.now within
          c.stage.ensures.fresh c.stage.ensures.staged old.log new.log c.stage.ensures.log
          (staged_back old new (logged c.args.table (Stage c.stage.result)) c.stage.ensures.log c.stage.ensures.marks)
          c.stage.ensures.extent c.stage.ensures.extents (room k d inside) (c.self.invariant.joined k d inside);
    }

pub returns-clause-rows : goal.returns-clause-rows
returns-clause-rows c =
    staged_rows c.self.inside.tables.tables c.stage.new.self.tables c.stage.ensures.shapes c.args.table c.stage.result c.args.values.now
    c.stage.ensures.fresh c.stage.ensures.staged
    ∙ ap (λ (s : Base). rows_now s.stored) c.self.view_is

pub returns-clause-capacity : goal.returns-clause-capacity
returns-clause-capacity c n m was =
    c.stage.ensures.capacity n m (subst (λ (s : Base). HoldsAt (HasCapacity (n + 1) m) s.stored.tables c.args.table) (sym c.self.view_is) was)

pub returns-clause-entries : goal.returns-clause-entries
returns-clause-entries c n have =
    entries_here c.self.inside.tables.tables c.stage.new.self.tables c.self.inside.links.items c.args.table c.stage.ensures.extent n
    (subst (λ (s : Base). HaveEntriesFor (n + 1) c.args.table s.stored.tables s.links) (sym c.self.view_is) have)

pub returns-clause-other_entries : goal.returns-clause-other_entries
returns-clause-other_entries c t n apart have =
    entries_other c.self.inside.tables.tables c.stage.new.self.tables c.self.inside.links.items t (c.stage.ensures.extents t apart) n
    (subst (λ (s : Base). HaveEntriesFor n t s.stored.tables s.links) (sym c.self.view_is) have)

pub returns-clause-saved : goal.returns-clause-saved
returns-clause-saved c mark within =
    rows_at_mark-kept c.self.inside.tables c.stage.new.self mark c.stage.ensures.shapes
    (c.stage.ensures.marks mark (omega (arith, within, ap (λ (s : Base). length s.stored.log) c.self.view_is)))
    ∙ ap (λ (s : Base). rows_at_mark s.stored mark) c.self.view_is
