use Rattle.std.proofs.Common.{◌-◌, ◌≡◌, ◌≢◌, ◌≤◌, length}
use Rattle.std.specs.List.{AllWithin}
use Rattle.std.specs.declared.cmp.Ordering.TheVariants.{Less}
use Rattle.mm_order.proofs.search.lower_bound.Given as goal

abbrev pub invariant-loop-low : goal.invariant-loop-low
invariant-loop-low g l = record {
  low_below : l.low ≤ l.high;
  high_within : l.high ≤ length l.refs;
  before : AllWithin (λ a. g.P.Probe.place_of l.probe a ≡ Less) l.refs 0 l.low;
  rest : AllWithin (λ a. g.P.Probe.place_of l.probe a ≢ Less) l.refs l.high (length l.refs);
}

abbrev pub decreases-loop-low : goal.decreases-loop-low
decreases-loop-low g l = l.high - l.low
