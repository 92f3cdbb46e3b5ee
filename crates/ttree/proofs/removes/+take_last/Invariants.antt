use Rattle.ttree_node.specs.Tree.{fork, node_count}
use Rattle.ttree.proofs.removes.+take_last.Given as goal

abbrev pub decreases-take_last : goal.decreases-take_last
decreases-take_last l = node_count (fork l.node)
