use Rattle.std.proofs.Common.{sym, ap, ◌∙◌, subst}
use Rattle.mm_tables.specs.Tables.{at_mark, keys_of}
use Rattle.mm_base.specs.Bases.{AreLawful, Base, rows_at_mark, references_of}
use Rattle.mm_base.specs.Joined.{HaveEntriesFor}
use Rattle.mm_base.proofs.Chained.{entries_kept, same_references}
use Rattle.mm_base.proofs.InBases.{lawful_from_state, rows_at_mark-kept, rows_from_state}
use Rattle.mm_base.proofs.Joining.{no_more}
use Rattle.mm_base.proofs.base_tables.BaseTables.revert.Goals as goal

pub invariant_of-self : goal.invariant_of-self
invariant_of-self c = record {
  lawful = lawful_from_state c.self.inside.tables.tables c.undo.new.tables.tables c.undo.ensures.shapes (at_mark c.self.inside.tables c.args.mark)
      c.undo.ensures.state
      (subst (λ (s : Base). AreLawful (keys_of s.stored.tables) (at_mark s.stored c.args.mark)) (sym c.self.view_is) c.requires.lawful);
  joined = c.undo.ensures.joined;
}

pub returns-clause-rows : goal.returns-clause-rows
returns-clause-rows c =
    rows_from_state c.self.inside.tables.tables c.undo.new.tables.tables c.undo.ensures.shapes (at_mark c.self.inside.tables c.args.mark)
    c.undo.ensures.state
    ∙ ap (λ (s : Base). rows_at_mark s.stored c.args.mark) c.self.view_is

pub returns-clause-links : goal.returns-clause-links
returns-clause-links c =
    same_references c.self.inside.links.items c.undo.new.links.items c.undo.ensures.links ∙ ap (λ (s : Base). references_of s.links) c.self.view_is

pub returns-clause-entries : goal.returns-clause-entries
returns-clause-entries c t n have =
    entries_kept c.self.inside.tables.tables c.undo.new.tables.tables c.self.inside.links.items c.undo.new.links.items
    (no_more c.self.inside.tables.tables c.undo.new.tables.tables c.undo.ensures.extents) c.undo.ensures.links t n
    (subst (λ (s : Base). HaveEntriesFor n t s.stored.tables s.links) (sym c.self.view_is) have)

pub returns-clause-saved : goal.returns-clause-saved
returns-clause-saved c earlier within =
    rows_at_mark-kept c.self.inside.tables c.undo.new.tables earlier c.undo.ensures.shapes (c.undo.ensures.marks earlier within)
    ∙ ap (λ (s : Base). rows_at_mark s.stored earlier) c.self.view_is
