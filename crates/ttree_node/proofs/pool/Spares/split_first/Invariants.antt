use Rattle.std.proofs.Common.{◌≡◌, ◌+◌, ◌-◌, ◌≤◌}
use Rattle.ttree_node.proofs.pool.Spares.split_first.Given as goal

abbrev pub invariant-loop-first : goal.invariant-loop-first
invariant-loop-first l = (l.self + l.first ≡ l.fn.self) × (l.first ≤ l.n)

abbrev pub decreases-loop-first : goal.decreases-loop-first
decreases-loop-first l = l.n - l.first
