use Rattle.std.proofs.Common.{◌≡◌, ◌+◌}
use Rattle.ttree_node.proofs.pool.Spares.put_all.Given as goal

abbrev pub invariant-loop-self : goal.invariant-loop-self
invariant-loop-self l = l.self + l.other ≡ l.fn.self + l.fn.other

abbrev pub decreases-loop-self : goal.decreases-loop-self
decreases-loop-self l = l.other
