-- T-trees: the number of entries of a node, and the balance of its two sides.
use Rattle.std.specs.Prelude.{◌≡◌, ℕ, ◌+◌, ◌≤◌, ◌⊎◌, max, List, length}
use Rattle.mm_value.specs.declared.row_ref.RowRef.{RowRef}
use Rattle.ttree_node.specs.Paths.{root_entries}
use Rattle.ttree_node.specs.Tree.{Tree, Empty, Fork, IsFork, Root, fork, height_of}

-- A node of 1 to 16 entries, and of at least 14 if it has two sides. The heights of its sides differ by at most `by`.
pub record IsNode (by : ℕ) (left : Tree) (entries : List RowRef) (right : Tree) : Type 0 where
  pub filled : 1 ≤ length entries
  pub fits : length entries ≤ 16
  pub full : IsFork left → IsFork right → 14 ≤ length entries
  pub left_low : height_of left ≤ height_of right + by
  pub right_low : height_of right ≤ height_of left + by

-- A T-tree: each node has 1 to 16 entries, an internal node 14 to 16, and the heights of the two sides of a node differ by at most 1
-- (Lehman and Carey, VLDB 1986; the balance is that of AVL trees).
abbrev pub IsTTree : Tree → Type 0
IsTTree Empty = Unit {0}
IsTTree (Fork left entries right) = IsTTree left × IsTTree right × IsNode 1 left entries right

-- A root over two T-trees whose heights differ by at most `by`.
abbrev pub IsRootOver : ℕ → Root → Type 0
IsRootOver by r = IsTTree r.left × IsTTree r.right × IsNode by r.left r.entries r.right

-- One of two adjacent nodes has enough entries for both, one of which is to become an internal node.
abbrev pub HaveEnough : List RowRef → Tree → Type 0
HaveEnough entries t = (14 ≤ length entries) ⊎ (15 ≤ length (root_entries t))

-- If one side of a root is empty and the other is two levels high, the root and the root of that side have enough entries for a rotation.
pub record MayTurn (r : Root) : Type 0 where
  pub left : r.right ≡ Empty → height_of r.left ≡ 2 → HaveEnough r.entries r.left
  pub right : r.left ≡ Empty → height_of r.right ≡ 2 → HaveEnough r.entries r.right

-- If a leaf grew by a level, its root has at least 15 entries.
abbrev pub GrowsFull : Tree → Root → Type 0
GrowsFull old new = height_of old ≡ 1 → height_of (fork new) ≡ 2 → 15 ≤ length new.entries

-- The height h of a tree that was balanced over sides of heights l and r.
pub record IsSettled (l r h : ℕ) : Type 0 where
  pub not_lower : max l r ≤ h
  pub at_most_one_higher : h ≤ max l r + 1
  pub where_balanced : l ≤ r + 1 → r ≤ l + 1 → h ≡ max l r + 1

-- The height h of a tree whose form was restored over sides of heights l and r.
pub record IsMended (l r h : ℕ) : Type 0 where
  pub not_lower : max l r ≤ h
  pub at_most_one_higher : h ≤ max l r + 1
  pub where_equal : l ≡ r → h ≡ l + 1
