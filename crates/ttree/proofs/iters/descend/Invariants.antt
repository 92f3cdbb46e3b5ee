use Rattle.std.proofs.Common.{◌≡◌, ◌+◌, ◌≤◌, ◌++◌, length}
use Rattle.std.specs.Option.{option_copied}
use Rattle.ttree_node.specs.Tree.{tree_of, in_order, height_of}
use Rattle.ttree.specs.Balanced.{IsTTree}
use Rattle.ttree.specs.Path.{IsPath, to_come}
use Rattle.ttree.proofs.iters.descend.Given as goal

-- The rest of the tree comes before the entries of the path.
abbrev pub invariant-loop-edge : goal.invariant-loop-edge
invariant-loop-edge l = record {
  path : IsPath 28 l.path.items;
  tree : IsTTree (tree_of (option_copied l.edge));
  low : length l.path.items + height_of (tree_of (option_copied l.edge)) ≤ 28;
  entries : in_order (tree_of (option_copied l.edge)) ++ to_come l.path.items ≡ in_order (tree_of (option_copied l.initial.tree))
      ++ to_come l.initial.path.items;
}

abbrev pub decreases-loop-edge : goal.decreases-loop-edge
decreases-loop-edge l = height_of (tree_of (option_copied l.edge))
