use Rattle.std.proofs.Common.{◌≡◌, ◌+ℤ◌, pos, List, length}
use Rattle.mm_value.specs.declared.values.Value.{Value}
use Rattle.mm_multiset.specs.Counts.{count_in, signed_count}
use Rattle.mm_multiset.specs.Tally.{AreListed}
use Rattle.mm_multiset.proofs.tally.add_all.Given as goal

-- the counts and the remaining changes have the same sum as the counts before and all added changes
abbrev pub invariant-loop-change : goal.invariant-loop-change
invariant-loop-change l = record {
  goes : (goal.iterator-loop-change).can_next l.change-iterator;
  ends : (goal.iterator-loop-change).is_finite l.change-iterator;
  size : length l.change-iterator.rest.items ≡ l.change-iterator.rest.len;
  left : AreListed l.change-iterator.rest.items;
  sum : (row : List Value) → pos (count_in row l.many.entries) +ℤ signed_count row l.change-iterator.rest.items
      ≡ pos (count_in row l.fn.many.entries) +ℤ signed_count row l.fn.few.items;
}
