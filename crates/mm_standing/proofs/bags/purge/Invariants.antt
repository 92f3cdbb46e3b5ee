use Rattle.std.proofs.Common.{◌≡◌, ℕ, List, length, vec_len}
use Rattle.std.specs.List.{All}
use Rattle.mm_value.specs.declared.values.Value.{Value}
use Rattle.mm_multiset.specs.Counts.{count_in, total_of}
use Rattle.mm_standing.specs.Bags.{IsLean, entries_at, feeds_of, types_of, undos}
use Rattle.mm_standing.proofs.Purging.{IsThereOrGone}
use Rattle.mm_standing.proofs.bags.purge.Given as goal

-- no count has changed, and the log names the rows of all entries whose count is 0
abbrev pub invariant-loop-change : goal.invariant-loop-change
invariant-loop-change l = record {
  there : All (IsThereOrGone l.fn.bags.items l.bags.items) l.log.items;
  counts : (list : ℕ) (row : List Value) → count_in row (entries_at l.bags.items list) ≡ count_in row (entries_at l.fn.bags.items list);
  totals : (list : ℕ) → total_of (entries_at l.bags.items list) ≡ total_of (entries_at l.fn.bags.items list);
  types : types_of l.bags.items ≡ types_of l.fn.bags.items;
  feeds : feeds_of l.bags.items ≡ feeds_of l.fn.bags.items;
  size : length l.bags.items ≡ length l.fn.bags.items;
  lean : IsLean l.bags.items (undos l.fn.bags.items l.log.items);
}

abbrev pub decreases-loop-change : goal.decreases-loop-change
decreases-loop-change l = vec_len l.log
