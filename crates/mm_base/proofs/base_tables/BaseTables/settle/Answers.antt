use Rattle.std.proofs.Common.{List, get_or, sym, ap, ◌∙◌, subst}
use Rattle.std.specs.List.{All}
use Rattle.mm_tables.specs.Tables.{slots_in}
use Rattle.mm_tables.specs.declared.log_record.LogRecord.{LogRecord}
use Rattle.mm_base.specs.Bases.{Base, rows_now}
use Rattle.mm_base.specs.Joined.{HaveEntriesFor, IsJoined}
use Rattle.mm_base.proofs.Chained.{KeepsSize-refl, entries_kept}
use Rattle.mm_base.proofs.InBases.{settled_lawful, settled_rows}
use Rattle.mm_base.proofs.Joining.{SameRows-live, joined_settled}
use Rattle.mm_base.proofs.Keeping.{SameLive-settled}
use Rattle.mm_base.proofs.base_tables.BaseTables.settle.Goals as goal

pub invariant_of-self : goal.invariant_of-self
invariant_of-self c =
    let old = c.self.inside.tables in
    let new = c.settle.new.self in
    let links = c.self.inside.links.items in
    record {
      lawful = settled_lawful old.tables new.tables c.settle.ensures.shapes c.settle.ensures.live c.settle.ensures.rest c.self.invariant.lawful;
      joined = subst (λ (log : List LogRecord). All (IsJoined new.tables log) links) (sym c.settle.ensures.log)
          (λ k d within.
          joined_settled old.tables new.tables c.settle.ensures.shapes (get_or links k d) old.log c.settle.ensures.extents
          (λ t.
          SameRows-live (slots_in old.tables t) (slots_in new.tables t)
          (SameLive-settled (slots_in old.tables t) (slots_in new.tables t) (c.settle.ensures.live t) (c.settle.ensures.rest t)))
          (c.self.invariant.joined k d within));
    }

pub returns-clause-rows : goal.returns-clause-rows
returns-clause-rows c =
    settled_rows c.self.inside.tables.tables c.settle.new.self.tables c.settle.ensures.shapes c.settle.ensures.live c.settle.ensures.rest
    ∙ ap (λ (s : Base). rows_now s.stored) c.self.view_is

pub returns-clause-entries : goal.returns-clause-entries
returns-clause-entries c t n have =
    entries_kept c.self.inside.tables.tables c.settle.new.self.tables c.self.inside.links.items c.self.inside.links.items c.settle.ensures.extents
    (KeepsSize-refl c.self.inside.links.items) t n
    (subst (λ (s : Base). HaveEntriesFor n t s.stored.tables s.links) (sym c.self.view_is) have)
