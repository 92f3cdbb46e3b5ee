-- Rows of one key.
use Rattle.std.specs.Prelude.{◌≡◌, ◌≢◌, ℕ, ◌<◌, cond, nat_lt}
use Rattle.std.specs.Ordering.{ordering_then}
use Rattle.std.specs.declared.cmp.Ordering.{Ordering}
use Rattle.std.specs.declared.cmp.Ordering.TheVariants.{Less, Equal, Greater}
use Rattle.mm_value.specs.declared.row_ref.RowRef.{RowRef}
use Rattle.mm_schema.specs.Rows.{column_cmp}
use Rattle.mm_row_order.specs.Refs.{Slots, HasRow, row_at}

-- how two references compare by their keys
abbrev pub keys_by : ℕ → Slots → RowRef → RowRef → Ordering
keys_by key now a b = column_cmp key (row_at now a) (row_at now b)

-- Another row in use has the key of a row.
abbrev pub HasTwin : ℕ → Slots → RowRef → Type 0
HasTwin key now at = (other : RowRef) × HasRow now other × (other ≢ at) × (keys_by key now other at ≡ Equal)

-- .. and a lower slot, or a higher one
abbrev pub HasTwinBelow : ℕ → Slots → RowRef → Type 0
HasTwinBelow key now at = (other : RowRef) × HasRow now other × (other.slot < at.slot) × (keys_by key now other at ≡ Equal)

abbrev pub HasTwinAbove : ℕ → Slots → RowRef → Type 0
HasTwinAbove key now at = (other : RowRef) × HasRow now other × (at.slot < other.slot) × (keys_by key now other at ≡ Equal)

-- No row in use has the key of another one.
abbrev pub AreApart : ℕ → Slots → Type 0
AreApart key now = (at : RowRef) → HasRow now at → HasTwin key now at → ⊥

-- the comparison of a reference to those that have the key of a row and lower slots
abbrev pub place_below : ℕ → Slots → RowRef → RowRef → Ordering
place_below key now at a = ordering_then (keys_by key now a at) (cond (nat_lt a.slot at.slot) Equal Greater)

-- the comparison of a reference to those that have the key of a row and higher slots
abbrev pub place_above : ℕ → Slots → RowRef → RowRef → Ordering
place_above key now at a = ordering_then (keys_by key now a at) (cond (nat_lt at.slot a.slot) Equal Less)
