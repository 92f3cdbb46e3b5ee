-- The layout of a `HashRefs`. No public clause cites this module.
use Rattle.std.specs.Prelude.{◌≡◌, ◌≢◌, ℕ, ◌+◌, ◌*◌, ◌^◌, ◌<◌, ◌≤◌, true, false, List, [], ◌∷◌, ◌++◌, length, map, filter, count_by, slice_index}
use Rattle.mm_value.specs.declared.row_ref.RowRef.{RowRef}
use Rattle.mlhash.specs.declared.node.Node.{Node}
use Rattle.mlhash.specs.declared.node.TheConstants.{NIL}
use Rattle.mlhash.specs.declared.place.Place.{Place}
use Rattle.mlhash.specs.Address.{bucket_of}
use Rattle.mlhash.specs.Chain.{Among, chain, IsLinked}
use Rattle.mlhash.specs.Pairs.{free_node, is_live, node_at, pair_of}

-- The pairs of the nodes that hold one.
abbrev pub entries : List Node → List (ℕ × RowRef)
entries ns = map pair_of (filter is_live ns)

-- A bucket's chain has exactly the entries whose hash belongs to this bucket.
pub record IsBucket (ns : List Node) (place : Place) (head bucket : ℕ) : Type 0 where
  pub linked : IsLinked ns head
  pub here : (i : ℕ) → Among i (chain ns head) → (is_live (node_at ns i) ≡ true) × (bucket_of place (node_at ns i).hash ≡ bucket)
  pub every : (i : ℕ) → i < length ns → is_live (node_at ns i) ≡ true → bucket_of place (node_at ns i).hash ≡ bucket → Among i (chain ns head)

-- A chain of the free nodes: all nodes without an entry.
pub record IsFree (ns : List Node) (len free : ℕ) : Type 0 where
  pub linked : IsLinked ns free
  pub dead : (i : ℕ) → Among i (chain ns free) → is_live (node_at ns i) ≡ false
  pub rest : length (chain ns free) + len ≡ length ns

-- Each entry is on the chain of its bucket, and each other node on the chain of free nodes.
pub record IsTable (heads : List ℕ) (ns : List Node) (len : ℕ) (place : Place) (free : ℕ) : Type 0 where
  pub counted : count_by is_live ns ≡ len
  pub size : length heads ≡ 4 * 2 ^ place.level + place.split
  pub split : place.split < 4 * 2 ^ place.level
  pub limit : length heads ≤ 2 ^ 31
  pub pool : IsFree ns len free
  pub buckets : (b : ℕ) → b < length heads → IsBucket ns place (slice_index heads b) b

-- There is a free node: the old head of the chain of free nodes, or else a new one.
pub record Stocks (ns : List Node) (free : ℕ) (ms : List Node) (new : ℕ) : Type 0 where
  pub kept : free ≢ NIL → (ms ≡ ns) × (new ≡ free)
  pub added : free ≡ NIL → (ms ≡ ns ++ free_node ∷ []) × (new ≡ length ns)
