-- The model of a T-tree.
use Rattle.std.specs.Prelude.{ℕ, ◌+◌, ◌-◌, ◌*◌, max, List}
use Rattle.mm_value.specs.declared.row_ref.RowRef.{RowRef}

-- The references in order, the height, and the capacity for more references without an allocation.
pub record Held : Type 0 where
  pub refs : List RowRef
  pub height : ℕ
  pub spare : ℕ

-- The capacity for more references of a tree with that many entries, nodes (free ones included) and free nodes: one per free node or, if
-- that is more, five per node minus 8 and the number of entries. That many nodes suffice whatever shape the tree has.
abbrev pub spare_of : ℕ → ℕ → ℕ → ℕ
spare_of len nodes free = max free (5 * nodes - (len + 8))
