use Rattle.std.proofs.Common.{◌≡◌, ◌≤◌, length, take}
use Rattle.std.specs.Vec.{vec_capacity}
use Rattle.mm_partition.specs.Views.{viewed}
use Rattle.mm_partition.proofs.view.RowView.copy.Given as goal

-- the copies so far are the values so far, and there is capacity for the others
abbrev pub invariant-loop-i : goal.invariant-loop-i
invariant-loop-i l = record {
  items : l.values.items ≡ take l.i (viewed l.self);
  room : length (viewed l.self) ≤ vec_capacity l.values;
}
