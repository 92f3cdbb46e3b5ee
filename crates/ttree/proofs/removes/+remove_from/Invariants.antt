use Rattle.ttree_node.specs.Tree.{tree_of, node_count}
use Rattle.ttree.proofs.removes.+remove_from.Given as goal

abbrev pub decreases-remove_from : goal.decreases-remove_from
decreases-remove_from g l = node_count (tree_of l.tree)
