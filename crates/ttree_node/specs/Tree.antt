-- T-trees: binary trees whose nodes have several entries in order (Lehman and Carey, VLDB 1986).
use Rattle.std.specs.Prelude.{ℕ, ◌+◌, max, List, [], ◌++◌, Option, Some, None}
use Rattle.mm_value.specs.declared.row_ref.RowRef.{RowRef}

-- a tree: empty, or a node with its entries between two subtrees
pub data Tree : Type 0 where
  Empty : Tree
  Fork : (left : Tree) (entries : List RowRef) (right : Tree) → Tree

-- a nonempty tree, by the parts of its root
pub record Root : Type 0 where
  pub left : Tree
  pub entries : List RowRef
  pub right : Tree

-- the tree of a root
abbrev pub fork : Root → Tree
fork r = Fork r.left r.entries r.right

-- the tree of a root that may be missing
abbrev pub tree_of : Option Root → Tree
tree_of None = Empty
tree_of (Some r) = fork r

-- the tree is not empty
abbrev pub IsFork : Tree → Type 0
IsFork Empty = ⊥
IsFork (Fork left entries right) = Unit {0}

-- the entries from left to right
abbrev pub in_order : Tree → List RowRef
in_order Empty = []
in_order (Fork left entries right) = in_order left ++ entries ++ in_order right

-- the height: the number of nodes on a longest path down
abbrev pub height_of : Tree → ℕ
height_of Empty = 0
height_of (Fork left entries right) = max (height_of left) (height_of right) + 1

-- the number of nodes
abbrev pub node_count : Tree → ℕ
node_count Empty = 0
node_count (Fork left entries right) = node_count left + node_count right + 1
