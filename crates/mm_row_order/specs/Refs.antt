-- References by the content of their rows.
use Rattle.std.specs.Prelude.{◌≡◌, ℕ, ◌<◌, List, length, Some, slice_get}
use Rattle.std.specs.Option.{option_cmp}
use Rattle.std.specs.Ordering.{nat_cmp, ordering_then}
use Rattle.std.specs.declared.cmp.Ordering.{Ordering}
use Rattle.mm_value.specs.Order.{value_cmp}
use Rattle.mm_value.specs.declared.row_ref.RowRef.{RowRef}
use Rattle.mm_value.specs.declared.values.Value.{Value}
use Rattle.mm_schema.specs.Rows.{rows_by}
use Rattle.mm_partition.specs.Places.{Content, Live, Hidden, row_in}

-- the content of each reference
abbrev pub Slots : Type 0
Slots = RowRef → Content

-- the row of a reference, or an empty one if it has none
abbrev pub row_at : Slots → RowRef → List Value
row_at now at = row_in (now at)

-- the reference has a row in use
abbrev pub HasRow : Slots → RowRef → Type 0
HasRow now at = (row : List Value) × (now at ≡ Live row)

-- the reference has a hidden row
abbrev pub HasHidden : Slots → RowRef → Type 0
HasHidden now at = (row : List Value) × (now at ≡ Hidden row)

-- The order of references by their rows, and of equal rows by their slots: no two references compare equal.
abbrev pub refs_by : ℕ → ℕ → Slots → RowRef → RowRef → Ordering
refs_by column key now a b = ordering_then (rows_by column key (row_at now a) (row_at now b)) (nat_cmp a.slot b.slot)

-- the comparison of a row with a value in its column
abbrev pub place_by : ℕ → Slots → Value → RowRef → Ordering
place_by column now value at = option_cmp value_cmp (slice_get (row_at now at) column) (Some value)

-- the reference has a row in use with both columns
pub record IsWide (column key : ℕ) (now : Slots) (at : RowRef) : Type 0 where
  pub row : List Value
  pub live : now at ≡ Live row
  pub column_in : column < length row
  pub key_in : key < length row
