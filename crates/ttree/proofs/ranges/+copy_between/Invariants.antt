use Rattle.std.specs.Option.{option_copied}
use Rattle.ttree_node.specs.Tree.{tree_of, node_count}
use Rattle.ttree.proofs.ranges.+copy_between.Given as goal

abbrev pub decreases-copy_between : goal.decreases-copy_between
decreases-copy_between g l = node_count (tree_of (option_copied l.tree))
