-- Rotations of a tree.
use Rattle.ttree_node.specs.Tree.{Tree, Empty, Fork, Root}

-- the right child on top, with the old root as its left child, which gets the middle subtree
abbrev pub under_right : Tree → Root → Root
under_right Empty r = r
under_right (Fork middle entries right) r = record { left = Fork r.left r.entries middle; entries = entries; right = right }

-- a rotation to the left
abbrev pub rotated_left : Root → Root
rotated_left r = under_right r.right r

-- the left child on top, with the old root as its right child, which gets the middle subtree
abbrev pub under_left : Tree → Root → Root
under_left Empty r = r
under_left (Fork left entries middle) r = record { left = left; entries = entries; right = Fork middle r.entries r.right }

-- a rotation to the right
abbrev pub rotated_right : Root → Root
rotated_right r = under_left r.left r
