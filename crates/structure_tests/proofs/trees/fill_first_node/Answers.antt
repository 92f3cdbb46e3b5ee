use Rattle.std.proofs.Common.{◌+◌, ◌<◌, arith}
use Rattle.mm_order.proofs.Ordered.{All-added}
use Rattle.structure_tests.proofs.trees.fill_first_node.Goals as goal

pub loop-number-preserved : goal.loop-number-preserved
loop-number-preserved g c = record {
  room = omega arith;
  ordered = c.insert.ensures.ordered;
  earlier = All-added _ _ _ _ c.insert.ensures.refs (λ a. a.slot < c.loop-number.number + 1)
      (λ k d below. omega (arith, c.loop-number.invariant.earlier k d below))
      (omega arith);
}
