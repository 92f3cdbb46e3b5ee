use Rattle.std.proofs.Common.{◌<◌, All}
use Rattle.mm_order.specs.Order.{IsOrdered}
use Rattle.bench_structures.specs.Keys.{by_key}
use Rattle.bench_structures.proofs.in_order.fill.Given as goal

-- the references below the next are inserted, in order
abbrev pub invariant-loop-number : goal.invariant-loop-number
invariant-loop-number g l = record {
  ordered : IsOrdered (λ _. Unit {0}) (by_key l.order.keys.now) (g.L.OrderedRefs.refs l.list);
  earlier : All (λ a. a.slot < l.number) (g.L.OrderedRefs.refs l.list);
}
