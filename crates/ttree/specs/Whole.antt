-- The invariant of a `TTree`.
use Rattle.std.specs.Prelude.{◌≡◌, ℕ, ◌+◌, ◌^◌, ◌≤◌, length}
use Rattle.ttree_node.specs.Tree.{Tree, in_order, node_count}
use Rattle.ttree.specs.Balanced.{IsTTree}

-- A T-tree, the number of its entries, and the number of its nodes and free nodes together, which is bounded.
pub record IsWhole (tree : Tree) (len nodes spares : ℕ) : Type 0 where
  pub balanced : IsTTree tree
  pub len_is : len ≡ length (in_order tree)
  pub nodes_are : nodes ≡ node_count tree + spares
  pub nodes_fit : nodes ≤ 2 ^ 31
