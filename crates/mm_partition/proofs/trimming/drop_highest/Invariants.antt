use Rattle.std.proofs.Common.{◌≡◌}
use Rattle.std.specs.Prelude.{vec_len, vec_capacity}
use Rattle.std.specs.List.Sorted.{IsNonDecreasing}
use Rattle.mm_partition.specs.Stored.{IsFreeStack, IsCut}
use Rattle.mm_partition.proofs.trimming.drop_highest.Given as goal

-- the remaining free slots are on the stack, in order
abbrev pub invariant-loop-states : goal.invariant-loop-states
invariant-loop-states l = record {
  stack : IsFreeStack l.states.items l.free.items;
  sorted : IsNonDecreasing l.free.items;
  cut : IsCut l.fn.states.items l.states.items;
  states_room : vec_capacity l.states ≡ vec_capacity l.fn.states;
  free_room : vec_capacity l.free ≡ vec_capacity l.fn.free;
}

abbrev pub decreases-loop-states : goal.decreases-loop-states
decreases-loop-states l = vec_len l.states
