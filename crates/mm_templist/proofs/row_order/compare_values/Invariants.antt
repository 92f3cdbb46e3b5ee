use Rattle.mm_templist.proofs.RowOrder.{AreEqualTo}
use Rattle.mm_templist.specs.Runs.{referred}
use Rattle.mm_templist.proofs.row_order.compare_values.Given as goal

abbrev pub invariant-loop-i : goal.invariant-loop-i
invariant-loop-i l = AreEqualTo l.i (referred l.a) (referred l.b)
