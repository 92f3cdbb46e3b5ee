-- A link between two tables: a column of one whose values are keys of the other.
use Rattle.std.specs.Prelude.{◌≡◌, ℕ, ◌≤◌, List, length, Option, Some, None, slice_get}
use Rattle.mm_foreign_key.specs.Ties.{Ties, target_at}
use Rattle.mm_partition.specs.Places.{Content, Free, Live, Hidden, Places, extent_of}
use Rattle.mm_row_order.specs.Refs.{HasRow, Slots, row_at}
use Rattle.mm_value.specs.declared.row_ref.RowRef.{RowRef}
use Rattle.mm_value.specs.declared.values.Value.{Value}

-- The row refers by its column to the row in use of a reference: its value there is that row's key.
pub record RefersTo (column key : ℕ) (then : Slots) (row : List Value) (to : RowRef) : Type 0 where
  pub live : HasRow then to
  pub same : slice_get row column ≡ slice_get (row_at then to) key

-- The row refers to some row in use.
abbrev pub HasTargetRow : ℕ → ℕ → Slots → List Value → Type 0
HasTargetRow column key then row = (to : RowRef) × RefersTo column key then row to

-- Each row in use refers to some row in use of the other table.
abbrev pub HaveTargets : ℕ → ℕ → Slots → Slots → Type 0
HaveTargets column key now then = (at : RowRef) (row : List Value) → now at ≡ Live row → HasTargetRow column key then row

-- Some row in use refers to the row in use of a reference.
abbrev pub IsReferredTo : ℕ → ℕ → Slots → Slots → RowRef → Type 0
IsReferredTo column key now then to = (at : RowRef) × HasRow now at × RefersTo column key then (row_at now at) to

-- The slot of a row in use is tied to the row that its row refers to, and any other slot to none.
abbrev pub IsTied : ℕ → ℕ → Slots → Content → Option RowRef → Type 0
IsTied column key then Free target = target ≡ None
IsTied column key then (Hidden row) target = target ≡ None
IsTied column key then (Live row) target = (to : RowRef) × (target ≡ Some to) × RefersTo column key then row to

-- Each slot of the referring table is tied by its content.
abbrev pub Follows : ℕ → ℕ → Slots → Slots → Ties → Type 0
Follows column key now then ties = (at : RowRef) → IsTied column key then (now at) (target_at ties at)

-- Two tables have the same rows in use.
abbrev pub SameRows : Slots → Slots → Type 0
SameRows old new = (at : RowRef) (row : List Value) → (old at ≡ Live row → new at ≡ Live row) × (new at ≡ Live row → old at ≡ Live row)

-- There is an entry for each slot of the referring table, and a count for each slot of the target table.
pub record HasRoom (from to : Places) (ties : Ties) : Type 0 where
  pub referrers : extent_of from ≤ length ties.targets
  pub targets : extent_of to ≤ ties.extent

-- There are as many entries and counts as before.
pub record SameSize (old new : Ties) : Type 0 where
  pub referrers : length new.targets ≡ length old.targets
  pub targets : new.extent ≡ old.extent
