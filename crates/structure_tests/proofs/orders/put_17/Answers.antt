use Rattle.std.proofs.Common.{◌+◌, ◌<◌, arith}
use Rattle.mm_order.proofs.Ordered.{All-added}
use Rattle.structure_tests.proofs.orders.put_17.Goals as goal

pub loop-n-preserved : goal.loop-n-preserved
loop-n-preserved g c = record {
  room = omega arith;
  ordered = c.insert.ensures.ordered;
  earlier = All-added _ _ _ _ c.insert.ensures.refs (λ a. a.slot < c.loop-n.n + 1)
      (λ k d below. omega (arith, c.loop-n.invariant.earlier k d below)) (omega arith);
}
