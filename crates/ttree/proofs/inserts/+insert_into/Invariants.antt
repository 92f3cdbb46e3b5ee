use Rattle.ttree_node.specs.Tree.{tree_of, node_count}
use Rattle.ttree.proofs.inserts.+insert_into.Given as goal

abbrev pub decreases-insert_into : goal.decreases-insert_into
decreases-insert_into g l = node_count (tree_of l.tree)
