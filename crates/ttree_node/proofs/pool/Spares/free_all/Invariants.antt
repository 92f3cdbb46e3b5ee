use Rattle.ttree_node.proofs.pool.Spares.free_all.Given as goal

abbrev pub decreases-loop-self : goal.decreases-loop-self
decreases-loop-self l = l.self
