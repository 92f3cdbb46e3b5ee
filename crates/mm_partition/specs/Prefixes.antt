-- Prefixes of the values in one column.
use Rattle.std.specs.Prelude.{◌≡◌, ℕ, List, length, map, slice_index}
use Rattle.mm_value.specs.Prefix.{order_prefix}
use Rattle.mm_value.specs.declared.row_ref.RowRef.{RowRef}
use Rattle.mm_value.specs.declared.values.Value.{Value}
use Rattle.mm_partition.specs.Places.{Places, Live, extent_of, slot_at}

-- the prefix of a row's value in a column, 0 past the end of the row
abbrev pub row_prefix : ℕ → List Value → ℕ
row_prefix column row = slice_index (map order_prefix row) column

-- There is a number for each slot, and for each live reference it is the prefix of its row.
pub record ArePrefixes (column : ℕ) (places : Places) (prefixes : List ℕ) : Type 0 where
  pub extent : length prefixes ≡ extent_of places
  pub each : (at : RowRef) (row : List Value) → slot_at places at ≡ Live row → slice_index prefixes at.slot ≡ row_prefix column row
