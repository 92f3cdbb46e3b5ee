use Rattle.ttree_node.specs.Tree.{fork, node_count}
use Rattle.ttree_node.proofs.nodes.Subtree.+free_into.Given as goal

abbrev pub decreases-free_into : goal.decreases-free_into
decreases-free_into l = node_count (fork l.self)
