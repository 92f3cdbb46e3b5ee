use Rattle.std.proofs.Common.{◌+◌, arith, length, length-drop}
use Rattle.mm_join.proofs.Rising.{less_up_to, not_less_from}
use Rattle.mm_join.proofs.entries.skip_less.Goals as goal

pub loop-low-init : goal.loop-low-init
loop-low-init c = record {
  from_start = omega arith;
  low_below = c.requires.bound;
  high_within = omega arith;
  before = c.requires.before;
  rest = λ k d inside. absurd (omega (arith, inside, length-drop (length c.args.entries.now) c.args.entries.now));
}

pub loop-low-preserved-then-entries-middle : goal.loop-low-preserved-then-entries-middle
loop-low-preserved-then-entries-middle c = record {
  from_start = omega arith;
  low_below = omega arith;
  high_within = c.loop-low.invariant.high_within;
  before = less_up_to c.args.entries.now c.requires.rising c.args.prefix (c.loop-low.low + c.min.result)
      (record { prefix = 0; at = record { slot = 0 } }) (omega arith) c.if-entries-middle.true;
  rest = c.loop-low.invariant.rest;
}

pub loop-low-preserved : goal.loop-low-preserved
loop-low-preserved c = record {
  from_start = omega arith;
  low_below = omega arith;
  high_within = omega arith;
  before = c.loop-low.invariant.before;
  rest = not_less_from c.args.entries.now c.requires.rising c.args.prefix (c.loop-low.low + c.min.result)
      (record { prefix = 0; at = record { slot = 0 } }) (omega arith) c.if-entries-middle.false;
}
