use Rattle.std.proofs.Common.{◌≡◌, ◌+◌, ◌≤◌, ◌++◌, length, take, vec_len, vec_capacity}
use Rattle.ttree.proofs.ranges.copy_all.Given as goal

-- The entries below i are appended, and there is capacity for the others.
abbrev pub invariant-loop-i : goal.invariant-loop-i
invariant-loop-i l = record {
  appended : l.out.items ≡ l.initial.out.items ++ take l.i l.entries;
  room : vec_len l.out + length l.entries ≤ vec_capacity l.out + l.i;
}
