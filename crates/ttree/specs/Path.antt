-- The path of an iteration through a tree: the nodes whose left side has been visited, or is being visited.
use Rattle.std.specs.Prelude.{ℕ, ◌-◌, ◌≤◌, List, [], ◌∷◌, ◌++◌, Option}
use Rattle.std.specs.Borrow.{Bor}
use Rattle.std.specs.Option.{option_copied}
use Rattle.mm_value.specs.declared.row_ref.RowRef.{RowRef}
use Rattle.ttree_node.specs.Tree.{Tree, Empty, Fork, Root, IsFork, tree_of, in_order, height_of}
use Rattle.ttree.specs.Balanced.{IsTTree}

-- The entries of a tree without those of its left side.
abbrev pub from_root : Tree → List RowRef
from_root Empty = []
from_root (Fork left entries right) = entries ++ in_order right

-- The remaining entries of a path from the root downwards: those of the deepest node come first.
abbrev pub to_come : List (Option (Bor Root)) → List RowRef
to_come [] = []
to_come (node ∷ below) = to_come below ++ from_root (tree_of (option_copied node))

-- A T-tree of at least one level, and at most `levels`.
pub record IsStep (levels : ℕ) (tree : Tree) : Type 0 where
  pub some : IsFork tree
  pub balanced : IsTTree tree
  pub low : height_of tree ≤ levels

-- A path of T-trees. Each has at most the levels that are left at its depth.
abbrev pub IsPath : ℕ → List (Option (Bor Root)) → Type 0
IsPath levels [] = Unit {0}
IsPath levels (node ∷ below) = IsStep levels (tree_of (option_copied node)) × IsPath (levels - 1) below
