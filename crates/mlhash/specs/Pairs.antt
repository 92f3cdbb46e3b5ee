-- Nodes and the pairs in them. No public clause cites this module.
use Rattle.std.specs.Prelude.{◌≡◌, ℕ, Bool, nat_lt, List, slice_index_or}
use Rattle.mm_value.specs.declared.row_ref.RowRef.{RowRef}
use Rattle.mlhash.specs.declared.node.Node.{Node}
use Rattle.mlhash.specs.declared.node.TheConstants.{NIL, FREE}

-- A node of zeros, the default for an index past the end of a list.
abbrev pub blank : Node
blank = record { hash = 0; reference = record { slot = 0 }; next = 0 }

-- A new node, without an entry and without a next node.
abbrev pub free_node : Node
free_node = record { hash = 0; reference = FREE; next = NIL }

-- The node at an index.
abbrev pub node_at : List Node → ℕ → Node
node_at ns i = slice_index_or ns i blank

-- A node holds an entry.
abbrev pub is_live : Node → Bool
is_live n = nat_lt n.reference.slot FREE.slot

-- The pair in a node.
abbrev pub pair_of : Node → ℕ × RowRef
pair_of n = (n.hash, n.reference)

-- Two nodes that differ only in their links.
pub record SameEntry (m n : Node) : Type 0 where
  pub hash : n.hash ≡ m.hash
  pub reference : n.reference ≡ m.reference
