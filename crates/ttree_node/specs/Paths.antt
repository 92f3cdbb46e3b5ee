-- Paths from the root of a tree down.
use Rattle.std.specs.Prelude.{ℕ, ◌-◌, ◌<◌, ◌≤◌, List, [], ◌∷◌, ◌++◌, length, insert, remove}
use Rattle.mm_value.specs.declared.row_ref.RowRef.{RowRef}
use Rattle.ttree_node.specs.Entries.{first_entry, last_entry}
use Rattle.ttree_node.specs.Tree.{Tree, Empty, Fork, in_order}
use Rattle.ttree_node.specs.declared.slides.Side.{Side}
use Rattle.ttree_node.specs.declared.slides.Side.TheVariants.{Left, Right}

-- the tree at the end of a path
abbrev pub tree_at : List Side → Tree → Tree
tree_at [] t = t
tree_at (side ∷ path) Empty = Empty
tree_at (Left ∷ path) (Fork left entries right) = tree_at path left
tree_at (Right ∷ path) (Fork left entries right) = tree_at path right

-- the entries of the root of a tree
abbrev pub root_entries : Tree → List RowRef
root_entries Empty = []
root_entries (Fork left entries right) = entries

-- the entries of the node at the end of a path
abbrev pub entries_at : List Side → Tree → List RowRef
entries_at path t = root_entries (tree_at path t)

-- a tree whose root has these entries
abbrev pub with_root : List RowRef → Tree → Tree
with_root now Empty = Empty
with_root now (Fork left entries right) = Fork left now right

-- a tree whose node at the end of a path has these entries
abbrev pub with_entries : List Side → List RowRef → Tree → Tree
with_entries [] now t = with_root now t
with_entries (side ∷ path) now Empty = Empty
with_entries (Left ∷ path) now (Fork left entries right) = Fork (with_entries path now left) entries right
with_entries (Right ∷ path) now (Fork left entries right) = Fork left entries (with_entries path now right)

-- the entries before the tree at the end of a path
abbrev pub lead : List Side → Tree → List RowRef
lead [] t = []
lead (side ∷ path) Empty = []
lead (Left ∷ path) (Fork left entries right) = lead path left
lead (Right ∷ path) (Fork left entries right) = in_order left ++ entries ++ lead path right

-- the entries after the tree at the end of a path
abbrev pub trail : List Side → Tree → List RowRef
trail [] t = []
trail (side ∷ path) Empty = []
trail (Left ∷ path) (Fork left entries right) = trail path left ++ entries ++ in_order right
trail (Right ∷ path) (Fork left entries right) = trail path right

-- a tree with another subtree at the end of a path
abbrev pub with_tree : List Side → Tree → Tree → Tree
with_tree [] now t = now
with_tree (side ∷ path) now Empty = Empty
with_tree (Left ∷ path) now (Fork left entries right) = Fork (with_tree path now left) entries right
with_tree (Right ∷ path) now (Fork left entries right) = Fork left entries (with_tree path now right)

-- a tree with one more entry at the end, in its last node
abbrev pub pushed : RowRef → Tree → Tree
pushed entry Empty = Empty
pushed entry (Fork left entries Empty) = Fork left (entries ++ entry ∷ []) Empty
pushed entry (Fork left entries (Fork l es r)) = Fork left entries (pushed entry (Fork l es r))

-- the last node has capacity
abbrev pub HasRoomAtEnd : Tree → Type 0
HasRoomAtEnd Empty = ⊥
HasRoomAtEnd (Fork left entries Empty) = length entries < 16
HasRoomAtEnd (Fork left entries (Fork l es r)) = HasRoomAtEnd (Fork l es r)

-- the last node of the left subtree has capacity
abbrev pub HasRoomOnLeft : Tree → Type 0
HasRoomOnLeft Empty = ⊥
HasRoomOnLeft (Fork left entries right) = HasRoomAtEnd left

-- a tree whose root has an entry inserted before position i, and its least entry moved to the end of its left subtree
abbrev pub exchanged : ℕ → RowRef → Tree → Tree
exchanged i entry Empty = Empty
exchanged i entry (Fork left entries right) = Fork (pushed (first_entry entries) left) (insert (remove entries 0) (i - 1) entry) right

-- the last entry of a tree; for an empty one, the reference to slot 0
abbrev pub end_of : Tree → RowRef
end_of Empty = last_entry []
end_of (Fork left entries Empty) = last_entry entries
end_of (Fork left entries (Fork l es r)) = end_of (Fork l es r)

-- a tree without its last entry
abbrev pub popped : Tree → Tree
popped Empty = Empty
popped (Fork left entries Empty) = Fork left (remove entries (length entries - 1)) Empty
popped (Fork left entries (Fork l es r)) = Fork left entries (popped (Fork l es r))

-- the last node is a leaf with at least two entries
abbrev pub HasSpareAtEnd : Tree → Type 0
HasSpareAtEnd Empty = ⊥
HasSpareAtEnd (Fork Empty entries Empty) = 2 ≤ length entries
HasSpareAtEnd (Fork (Fork l es r) entries Empty) = ⊥
HasSpareAtEnd (Fork left entries (Fork l es r)) = HasSpareAtEnd (Fork l es r)

-- the last node of the left subtree is such a leaf
abbrev pub HasSpareOnLeft : Tree → Type 0
HasSpareOnLeft Empty = ⊥
HasSpareOnLeft (Fork left entries right) = HasSpareAtEnd left

-- a tree whose root has the entry at position i removed, and the last entry of its left subtree moved to its front
abbrev pub borrowed : ℕ → Tree → Tree
borrowed i Empty = Empty
borrowed i (Fork left entries right) = Fork (popped left) (insert (remove entries i) 0 (end_of left)) right
