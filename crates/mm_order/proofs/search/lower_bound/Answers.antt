use Rattle.std.proofs.Common.{arith, sym, ap, ◌∙◌}
use Rattle.std.specs.Ordering.{is_lt}
use Rattle.mm_order.proofs.Places.{less_from_is_lt, not_less_from_is_lt, less_up_to, not_less_from}
use Rattle.mm_order.proofs.search.lower_bound.Goals as goal

pub loop-low-preserved-then-is_lt : goal.loop-low-preserved-then-is_lt
loop-low-preserved-then-is_lt g c = record {
  low_below = omega arith;
  high_within = c.loop-low.invariant.high_within;
  before = less_up_to (g.P.Probe.place_of c.args.probe.now) _ _ (record { slot = 0 }) c.requires.rising (omega arith)
      (less_from_is_lt _ (sym (ap is_lt c.place.ensures) ∙ sym c.is_lt.ensures ∙ c.if-is_lt.true));
  rest = c.loop-low.invariant.rest;
}

pub loop-low-preserved : goal.loop-low-preserved
loop-low-preserved g c = record {
  low_below = omega arith;
  high_within = omega arith;
  before = c.loop-low.invariant.before;
  rest = not_less_from (g.P.Probe.place_of c.args.probe.now) _ _ (record { slot = 0 }) c.requires.rising (omega arith)
      (not_less_from_is_lt _ (sym (ap is_lt c.place.ensures) ∙ sym c.is_lt.ensures ∙ c.if-is_lt.false));
}
