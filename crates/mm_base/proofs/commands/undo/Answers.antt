use Rattle.std.proofs.Common.{◌∙◌, ◌∷◌, [], length, ap, refl, sym, arith}
use Rattle.std.proofs.lemmas.List.{append-nil, length-append}
use Rattle.mm_tables.specs.Tables.{back}
use Rattle.mm_tables.proofs.Logs.{IsUndoing-more, undone_marks}
use Rattle.mm_base.proofs.Chained.{KeepsSize-both, KeepsSize-follows, KeepsSize-refl, joined-follows}
use Rattle.mm_base.proofs.Joining.{behind_undone}
use Rattle.mm_base.proofs.commands.undo.Goals as goal

pub loop-tables-init : goal.loop-tables-init
loop-tables-init c = record {
  least = c.requires.mark;
  undoing = record { gone = []; split = sym (append-nil c.args.tables.now.log); state = refl };
  shapes = refl;
  extents = refl;
  joined = c.requires.joined;
  links = KeepsSize-refl c.args.links.now.items;
}

pub retie_undone_all-requires : goal.retie_undone_all-requires
retie_undone_all-requires c k d within =
    let old = c.loop-tables.tables in
    let new = c.undo_last-undone.new.self in
    let undone = c.undo_last-undone.ensures in
    behind_undone old.tables new.tables undone.shapes _ c.undo_last-undone.result undone.undone.state old.log new.log undone.undone.log undone.extents
    c.is_logged.ensures (c.loop-tables.invariant.joined k d within)

pub loop-tables-preserved : goal.loop-tables-preserved
loop-tables-preserved c =
    let inv = c.loop-tables.invariant in
    let old = c.loop-tables.tables in
    let new = c.undo_last-undone.new.self in
    let undone = c.undo_last-undone.ensures in
    let links = c.retie_undone_all.new.links.items in
    record {
      least = omega (
        arith,
        c.loop-tables-test.true,
        c.mark.ensures,
        ap length undone.undone.log,
        length-append new.log (c.undo_last-undone.result ∷ []),
      );
      undoing = IsUndoing-more back c.args.tables.now.log old.log new.log c.undo_last-undone.result _ _ _ undone.undone.log undone.undone.state inv.undoing;
      shapes = undone.shapes ∙ inv.shapes;
      extents = undone.extents ∙ inv.extents;
      joined = joined-follows new.tables new.log c.loop-tables.links.items links c.retie_undone_all.ensures;
      links = KeepsSize-both c.args.links.now.items c.loop-tables.links.items links inv.links
          (KeepsSize-follows new.tables new.log c.loop-tables.links.items links c.retie_undone_all.ensures);
    }

pub returns-clause-marks : goal.returns-clause-marks
returns-clause-marks c =
    undone_marks back c.args.tables.now.log c.loop-tables.tables.log _ _ c.args.mark
    (omega (arith, c.loop-tables.invariant.least, c.loop-tables-test.false, c.mark.ensures)) c.loop-tables.invariant.undoing
