-- The heights that a node stores.
use Rattle.std.specs.Prelude.{◌≡◌, ℕ, min, Option}
use Rattle.ttree_node.specs.Tree.{Root, tree_of, height_of}

-- the height of a tree that may be missing, in 16 bits: 65,535 if it is greater
abbrev pub short_height : Option Root → ℕ
short_height tree = min (height_of (tree_of tree)) 65535

-- each link has the height of its subtree
pub record IsHeightKept (left_height : ℕ) (left : Option Root) (right_height : ℕ) (right : Option Root) : Type 0 where
  pub left_is : left_height ≡ short_height left
  pub right_is : right_height ≡ short_height right
