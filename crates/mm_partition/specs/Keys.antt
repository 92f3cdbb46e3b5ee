-- Search keys of a column.
use Rattle.std.specs.Prelude.{◌≡◌, ℕ, List, length, Some, slice_get, slice_index_or}
use Rattle.std.proofs.Math.IntN.{ℤ, pos}
use Rattle.mm_value.specs.declared.row_ref.RowRef.{RowRef}
use Rattle.mm_value.specs.declared.values.Value.{Value}
use Rattle.mm_value.specs.declared.values.Value.TheVariants.{Int}
use Rattle.mm_partition.specs.Places.{Places, Live, extent_of, slot_at}
use Rattle.mm_partition.specs.Prefixes.{ArePrefixes}
use Rattle.mm_partition.specs.declared.keys.ColumnKeys.{ColumnKeys}
use Rattle.mm_partition.specs.declared.keys.ColumnKeys.TheVariants.{Numbers, Prefixes, None}

-- There is a number for each slot, and for each live reference it is the value of its row in the column.
pub record AreNumbers (column : ℕ) (places : Places) (numbers : List ℤ) : Type 0 where
  pub extent : length numbers ≡ extent_of places
  pub each : (at : RowRef) (row : List Value) → slot_at places at ≡ Live row
      → slice_get row column ≡ Some (Int (slice_index_or numbers at.slot (pos 0)))

-- The keys are the numbers of the column, or the prefixes of its texts, or there are none.
abbrev pub AreKeys : ℕ → Places → ColumnKeys → Type 0
AreKeys column places (Numbers numbers) = AreNumbers column places numbers.now
AreKeys column places (Prefixes prefixes) = ArePrefixes column places prefixes.now
AreKeys column places None = Unit {0}
