use Rattle.std.proofs.Common.{◌≡◌, ℕ, ◌+◌, ◌+ℤ◌, ◌≤◌, ◌<◌, List, length, vec_len}
use Rattle.std.specs.List.{All}
use Rattle.std.specs.Vec.{vec_capacity}
use Rattle.mm_value.specs.declared.values.Value.{Value}
use Rattle.mm_multiset.specs.Counts.{count_in, total_of}
use Rattle.mm_standing.specs.Bags.{IsSmall, IsSound, IsTyped, CanAdd, done_of, entries_at, feeds_of, row_change, sum_over, types_of, undos}
use Rattle.mm_standing.specs.declared.change.RowChange.{RowChange}
use Rattle.mm_standing.proofs.Preparing.{AreSplit}
use Rattle.mm_standing.proofs.prepare.prepare_each.Given as goal

-- the changes prepared so far, and the rest
abbrev pub invariant-loop-change : goal.invariant-loop-change
invariant-loop-change l = record {
  sound : IsSound l.bags.items l.prepared.items l.log;
  split : AreSplit l.fn.changes.items l.changes.items (done_of l.bags.items l.prepared.items);
  there : All (λ (c : RowChange). c.list < length l.bags.items) l.changes.items;
  small : All IsSmall l.changes.items;
  typed : All (IsTyped l.bags.items) l.changes.items;
  room : vec_len l.prepared + vec_len l.changes ≤ vec_capacity l.prepared;
  many : vec_len l.prepared + vec_len l.changes ≡ vec_len l.fn.changes;
  log : undos l.bags.items l.log ≡ undos l.fn.bags.items l.log;
  counts : (list : ℕ) (row : List Value) → count_in row (entries_at l.bags.items list) ≡ count_in row (entries_at l.fn.bags.items list);
  totals : (list : ℕ) → total_of (entries_at l.bags.items list) ≡ total_of (entries_at l.fn.bags.items list);
  types : types_of l.bags.items ≡ types_of l.fn.bags.items;
  feeds : feeds_of l.bags.items ≡ feeds_of l.fn.bags.items;
  size : length l.bags.items ≡ length l.fn.bags.items;
}

abbrev pub decreases-loop-change : goal.decreases-loop-change
decreases-loop-change l = vec_len l.changes
