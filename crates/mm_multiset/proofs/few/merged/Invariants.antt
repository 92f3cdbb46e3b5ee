use Rattle.std.proofs.Common.{◌≡◌, ◌+ℤ◌, List, All, length}
use Rattle.mm_value.specs.declared.values.Value.{Value}
use Rattle.mm_multiset.specs.Counts.{signed_count}
use Rattle.mm_multiset.specs.Tally.{AreOnce, IsSmall}
use Rattle.mm_multiset.specs.declared.signed.Signed.{Signed}
use Rattle.mm_multiset.proofs.few.merged.Given as goal

-- the changes so far and the remaining ones have the same sum as both lists
abbrev pub invariant-loop-change : goal.invariant-loop-change
invariant-loop-change l = record {
  goes : (goal.iterator-loop-change).can_next l.change-iterator;
  ends : (goal.iterator-loop-change).is_finite l.change-iterator;
  size : length l.change-iterator.rest.items ≡ l.change-iterator.rest.len;
  are : AreOnce l.found.items;
  left : All (λ (change : Signed). IsSmall change.count) l.change-iterator.rest.items;
  sum : (row : List Value) → signed_count row l.found.items +ℤ signed_count row l.change-iterator.rest.items
      ≡ signed_count row l.fn.first.items +ℤ signed_count row l.fn.more.items;
}
