use Rattle.std.proofs.Common.{◌≤◌}
use Rattle.std.specs.List.Sorted.{IsPermutation}
use Rattle.mm_standing.proofs.Gains.{AreParted}
use Rattle.mm_standing.proofs.prepare.put_gains_first.Given as goal

-- of the changes so far, those that add rows are first
abbrev pub invariant-loop-i : goal.invariant-loop-i
invariant-loop-i l = record {
  moved : IsPermutation l.fn.changes.items l.changes.items;
  parted : AreParted l.changes.items l.gains l.i;
  behind : l.gains ≤ l.i;
}
