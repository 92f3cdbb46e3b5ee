-- Moving entries from a node to a child that will become the root.
use Rattle.std.specs.Prelude.{◌≡◌, ℕ, ◌-◌, min, ◌++◌, length, take, drop}
use Rattle.ttree_node.specs.Tree.{Tree, Empty, Fork, Root}
use Rattle.ttree_node.specs.declared.slides.Side.{Side}
use Rattle.ttree_node.specs.declared.slides.Side.TheVariants.{Left, Right}

-- a tree of one node
abbrev pub IsLeaf : Tree → Type 0
IsLeaf Empty = ⊥
IsLeaf (Fork left entries right) = (left ≡ Empty) × (right ≡ Empty)

-- a subtree on a side, with no entry between those of the root and those of the subtree's root
abbrev pub IsNextTo : Side → Tree → Type 0
IsNextTo side Empty = ⊥
IsNextTo Left (Fork left entries right) = right ≡ Empty
IsNextTo Right (Fork left entries right) = left ≡ Empty

-- the child on a side
abbrev pub child : Side → Root → Tree
child Left r = r.left
child Right r = r.right

-- the number of entries that move from n to a child of m entries: until the child has 14, or one is left
abbrev pub handed_on : ℕ → ℕ → ℕ
handed_on n m = min (n - 1) (14 - m)

-- the first entries move to the end of the left child
abbrev pub slid_to_left : Tree → Root → Root
slid_to_left Empty r = r
slid_to_left (Fork left entries right) r =
    let n = handed_on (length r.entries) (length entries) in record r { left = Fork left (entries ++ take n r.entries) right; entries = drop n r.entries }

-- the last entries move to the front of the right child
abbrev pub slid_to_right : Tree → Root → Root
slid_to_right Empty r = r
slid_to_right (Fork left entries right) r =
    let kept = length r.entries - handed_on (length r.entries) (length entries) in
    record r { entries = take kept r.entries; right = Fork left (drop kept r.entries ++ entries) right }

-- a root after moving entries to its child on a side
abbrev pub slid : Side → Root → Root
slid Left r = slid_to_left r.left r
slid Right r = slid_to_right r.right r
