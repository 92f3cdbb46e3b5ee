use Rattle.std.proofs.Common.{arith, sym, ap, ◌∙◌}
use Rattle.std.specs.Ordering.{is_le}
use Rattle.mm_order.proofs.Places.{not_greater_from_is_le, greater_from_is_le, not_greater_up_to, greater_from}
use Rattle.mm_order.proofs.search.upper_bound.Goals as goal

pub loop-low-preserved-then-is_le : goal.loop-low-preserved-then-is_le
loop-low-preserved-then-is_le g c = record {
  low_below = omega arith;
  high_within = c.loop-low.invariant.high_within;
  before = not_greater_up_to (g.P.Probe.place_of c.args.probe.now) _ _ (record { slot = 0 }) c.requires.rising (omega arith)
      (not_greater_from_is_le _ (sym (ap is_le c.place.ensures) ∙ sym c.is_le.ensures ∙ c.if-is_le.true));
  rest = c.loop-low.invariant.rest;
}

pub loop-low-preserved : goal.loop-low-preserved
loop-low-preserved g c = record {
  low_below = omega arith;
  high_within = omega arith;
  before = c.loop-low.invariant.before;
  rest = greater_from (g.P.Probe.place_of c.args.probe.now) _ _ (record { slot = 0 }) c.requires.rising (omega arith)
      (greater_from_is_le _ (sym (ap is_le c.place.ensures) ∙ sym c.is_le.ensures ∙ c.if-is_le.false));
}
