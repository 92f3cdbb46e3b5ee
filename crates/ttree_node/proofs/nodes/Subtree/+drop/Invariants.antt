use Rattle.ttree_node.specs.Tree.{fork, node_count}
use Rattle.ttree_node.proofs.nodes.Subtree.+drop.Given as goal

abbrev pub decreases-drop : goal.decreases-drop
decreases-drop l = node_count (fork l.self)
