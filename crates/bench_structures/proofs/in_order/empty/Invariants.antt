use Rattle.mm_order.specs.Order.{IsOrdered}
use Rattle.bench_structures.specs.Keys.{by_key}
use Rattle.bench_structures.proofs.in_order.empty.Given as goal

-- the remaining references are in order
abbrev pub invariant-loop-entry : goal.invariant-loop-entry
invariant-loop-entry g l = IsOrdered (λ _. Unit {0}) (by_key l.order.keys.now) (g.L.OrderedRefs.refs l.list)
