-- A pool of free nodes.
use Rattle.std.specs.Prelude.{◌≡◌, ℕ, ◌^◌, ◌≤◌}
use Rattle.ttree_node.specs.Tree.{Tree, Empty, Fork, node_count}

-- a chain of free nodes, linked by their left links
abbrev pub IsChain : Tree → Type 0
IsChain Empty = Unit {0}
IsChain (Fork left entries right) = IsChain left × (right ≡ Empty)

-- a chain of this many nodes, at most 2^32
pub record IsPool (chain : Tree) (len : ℕ) : Type 0 where
  pub chained : IsChain chain
  pub len_is : len ≡ node_count chain
  pub few : len ≤ 2 ^ 32
