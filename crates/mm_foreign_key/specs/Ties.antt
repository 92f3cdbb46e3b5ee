-- The row that each row refers to.
use Rattle.std.specs.Prelude.{◌≡◌, ◌≢◌, ℕ, List, Option, Some, None, slice_index_or}
use Rattle.mm_value.specs.declared.row_ref.RowRef.{RowRef}

-- For each slot of the referring table the row that its row refers to, and the number of slots of the target table that have a count.
pub record Ties : Type 0 where
  pub targets : List (Option RowRef)
  pub extent : ℕ

-- the row that a row refers to, if any: none past the last entry
abbrev pub target_at : Ties → RowRef → Option RowRef
target_at ties from = slice_index_or ties.targets from.slot None

-- the row refers to some row
abbrev pub HasTarget : Ties → RowRef → Type 0
HasTarget ties from = (to : RowRef) × (target_at ties from ≡ Some to)

-- some row refers to the row
abbrev pub IsReferred : Ties → RowRef → Type 0
IsReferred ties to = (from : RowRef) × (target_at ties from ≡ Some to)

-- every row refers to the same row as before
abbrev pub KeepsTargets : Ties → Ties → Type 0
KeepsTargets old new = (from : RowRef) → target_at new from ≡ target_at old from

-- this row has this target now, and every other row has its previous one
pub record ChangesTarget (old new : Ties) (from : RowRef) (target : Option RowRef) : Type 0 where
  pub changed : target_at new from ≡ target
  pub others : (other : RowRef) → other ≢ from → target_at new other ≡ target_at old other
