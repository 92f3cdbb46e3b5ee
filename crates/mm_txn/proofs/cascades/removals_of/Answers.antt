use Rattle.std.proofs.Common.{◌∙◌}
use Rattle.mm_txn.specs.PlacedEdits.{placed}
use Rattle.mm_txn.proofs.CascadeFinds.{removals_found}
use Rattle.mm_txn.proofs.cascades.removals_of.Goals as goal

pub returns-then-removals-place : goal.returns-then-removals-place
returns-then-removals-place c =
    c.as_slice-then-removals-place.ensures
    ∙ removals_found (placed c.args.own.now) c.args.cascaded.now c.args.place c.loop-removals.removals-index c.removals-item.result c.loop-removals-test.true
    c.removals-item.is c.if-removals-place.true c.if-own-place.false c.loop-removals.invariant
