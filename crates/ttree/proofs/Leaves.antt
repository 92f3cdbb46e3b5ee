-- Lemmas about trees of height 0 and 1, and about nonempty trees.
use Rattle.std.proofs.Common.{◌≡◌, ◌≤◌, refl, arith}
use Rattle.ttree_node.specs.Tree.{Tree, Empty, Fork, IsFork, height_of, node_count}
use Rattle.ttree_node.specs.Slide.{IsLeaf}

-- Lemma: a tree of height 0 is empty.
pub empty_from_height : (t : Tree) → height_of t ≡ 0 → t ≡ Empty
empty_from_height Empty h = refl
empty_from_height (Fork left entries right) h = absurd (omega arith)

-- Lemma: a tree of height 1 is a leaf.
pub leaf_from_height : (t : Tree) → height_of t ≡ 1 → IsLeaf t
leaf_from_height Empty h = absurd (omega arith)
leaf_from_height (Fork left entries right) h = (empty_from_height left (omega arith), empty_from_height right (omega arith))

-- Lemma: a tree whose height is not 0 has a node.
pub fork_from_height : (t : Tree) → 1 ≤ height_of t → IsFork t
fork_from_height Empty h = absurd (omega (arith, h))
fork_from_height (Fork left entries right) h = tt

-- Lemma: the height of a tree with a node is not 0.
pub height_from_fork : (t : Tree) → IsFork t → 1 ≤ height_of t
height_from_fork Empty is = absurd is
height_from_fork (Fork left entries right) is = omega arith

pub count_from_fork : (t : Tree) → IsFork t → 1 ≤ node_count t
count_from_fork Empty is = absurd is
count_from_fork (Fork left entries right) is = omega arith

-- Lemma: a tree as high as one with a node has a node.
pub fork_of_same_height : (t now : Tree) → height_of now ≡ height_of t → IsFork now → IsFork t
fork_of_same_height t now same is = fork_from_height t (omega (arith, same, height_from_fork now is))

-- Lemma: a tree of height at most 1 has at most one node.
pub one_node : (t : Tree) → height_of t ≤ 1 → node_count t ≤ 1
one_node Empty h = omega arith
one_node (Fork left entries right) h =
    omega (arith, h, no_node left (omega (arith, h)), no_node right (omega (arith, h)))
  where
    no_node : (t : Tree) → height_of t ≤ 0 → node_count t ≤ 0
    no_node Empty h = omega arith
    no_node (Fork left entries right) h = absurd (omega (arith, h))
