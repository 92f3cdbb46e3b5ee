use Rattle.std.proofs.Common.{◌≡◌}
use Rattle.ttree_node.proofs.pool.Spares.allocated.Given as goal

abbrev pub invariant-loop : goal.invariant-loop
invariant-loop l = l.fresh ≡ l.counter
