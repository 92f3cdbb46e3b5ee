use Rattle.std.proofs.Common.{◌≡◌, ◌≢◌, ◌+◌, ◌-◌, ◌^◌, ◌<◌, ◌≤◌, length, get_or}
use Rattle.std.specs.List.{AllWithin}
use Rattle.std.specs.declared.cmp.Ordering.TheVariants.{Greater}
use Rattle.ttree.proofs.removes.find_held.Given as goal

-- The first entry of the range, unless it is the first of all, is not after the reference, and all entries past the range are after it.
abbrev pub invariant-loop : goal.invariant-loop
invariant-loop g l = record {
  some : 1 ≤ l.size;
  within : l.low + l.size ≤ length l.entries;
  halved : l.size ≤ 2 ^ (4 - l.counter);
  first : 0 < l.low → g.O.RefOrder.cmp l.order (get_or l.entries l.low (record { slot = 0 })) l.gone ≢ Greater;
  after : AllWithin (λ a. g.O.RefOrder.cmp l.order a l.gone ≡ Greater) l.entries (l.low + l.size) (length l.entries);
}
