use Rattle.std.proofs.Common.{◌≡◌, ℕ, List, length, vec_len}
use Rattle.mm_value.specs.declared.values.Value.{Value}
use Rattle.mm_multiset.specs.Counts.{count_in}
use Rattle.mm_standing.specs.Bags.{IsSound, entries_at, feeds_of, types_of, undos}
use Rattle.mm_standing.proofs.bags.drop_all.Given as goal

-- the rest can be applied, and no count has changed
abbrev pub invariant-loop-change : goal.invariant-loop-change
invariant-loop-change l = record {
  sound : IsSound l.bags.items l.prepared.items l.log;
  log : undos l.bags.items l.log ≡ undos l.fn.bags.items l.log;
  counts : (list : ℕ) (row : List Value) → count_in row (entries_at l.bags.items list) ≡ count_in row (entries_at l.fn.bags.items list);
  types : types_of l.bags.items ≡ types_of l.fn.bags.items;
  feeds : feeds_of l.bags.items ≡ feeds_of l.fn.bags.items;
  size : length l.bags.items ≡ length l.fn.bags.items;
}

abbrev pub decreases-loop-change : goal.decreases-loop-change
decreases-loop-change l = vec_len l.prepared
