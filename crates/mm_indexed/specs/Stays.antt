-- Whether an entry keeps its place in an index when its row and another one change places.
use Rattle.std.specs.Prelude.{ℕ, ◌+◌, ◌≤◌, Bool, false, ◌&&◌, cond, List, ◌∷◌, Option, Some, None}
use Rattle.mm_value.specs.declared.row_ref.RowRef.{RowRef}
use Rattle.mm_schema.specs.Rows.{same_in_column}
use Rattle.mm_row_order.specs.Refs.{Slots, row_at}
use Rattle.mm_indexed.specs.Index.{Keeps, SameIndex, column_of, tie_column, spare_of}
use Rattle.mm_indexed.specs.declared.indexes.index.Index.{Index}

-- The row of a reference has the same values as the other row in two columns. False if there is no other row.
abbrev pub agrees : ℕ → ℕ → Slots → RowRef → Option RowRef → Bool
agrees column tie now at None = false
agrees column tie now at (Some other) =
    same_in_column column (row_at now at) (row_at now other) && same_in_column tie (row_at now at) (row_at now other)

-- The entry of a reference keeps its place in an index.
abbrev pub stays : ℕ → Slots → RowRef → Option RowRef → Index → Bool
stays key now at other x = agrees (column_of x) (tie_column key x) now at other

-- these references, and this one if it stays
abbrev pub beside : Bool → RowRef → List RowRef → List RowRef
beside stay at held = cond stay (at ∷ held) held

-- The entry of a reference was removed from an index, unless it keeps its place, and nothing else was.
pub record Removes (key : ℕ) (now : Slots) (at : RowRef) (other : Option RowRef) (old new : Index) : Type 0 where
  pub keeps : (held : List RowRef) → Keeps key now (at ∷ held) old → Keeps key now (beside (stays key now at other old) at held) new
  pub same : SameIndex old new
  pub spare : spare_of old ≤ spare_of new

-- The entry of a reference was inserted into an index, unless it kept its place, and nothing else was.
pub record Inserts (key : ℕ) (now : Slots) (at : RowRef) (other : Option RowRef) (old new : Index) : Type 0 where
  pub keeps : (held : List RowRef) → Keeps key now (beside (stays key now at other old) at held) old → Keeps key now (at ∷ held) new
  pub same : SameIndex old new
  pub spare : spare_of old ≤ spare_of new + 1
