use Rattle.std.specs.Option.{option_copied}
use Rattle.ttree_node.specs.Tree.{tree_of, node_count}
use Rattle.structure_tests.proofs.tree_nodes.+write_numbers.Given as goal

abbrev pub decreases-write_numbers : goal.decreases-write_numbers
decreases-write_numbers l = node_count (tree_of (option_copied l.tree))
