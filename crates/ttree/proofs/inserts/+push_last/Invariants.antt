use Rattle.ttree_node.specs.Tree.{tree_of, node_count}
use Rattle.ttree.proofs.inserts.+push_last.Given as goal

abbrev pub decreases-push_last : goal.decreases-push_last
decreases-push_last l = node_count (tree_of l.tree)
