-- References in the order of a column.
use Rattle.std.specs.Prelude.{◌≡◌, ◌≢◌, ℕ, ◌<◌, List, length, AllPairs}
use Rattle.std.specs.declared.cmp.Ordering.TheVariants.{Equal}
use Rattle.mm_value.specs.declared.row_ref.RowRef.{RowRef}
use Rattle.mm_value.specs.declared.values.Value.{Value}
use Rattle.mm_schema.specs.Rows.{column_cmp}
use Rattle.mm_order.specs.Order.{IsOrdered}
use Rattle.mm_partition.specs.Places.{Live}
use Rattle.mm_row_order.specs.Refs.{Slots, IsWide, refs_by, row_at}

-- references in the order of a column, the key and the slot
abbrev pub InOrder : ℕ → ℕ → Slots → List RowRef → Type 0
InOrder column key now refs = IsOrdered (IsWide column key now) (refs_by column key now) refs

-- no two of these rows have one key
abbrev pub KeysApart : ℕ → Slots → List RowRef → Type 0
KeysApart key now refs = AllPairs (λ a b. column_cmp key (row_at now a) (row_at now b) ≢ Equal) refs

-- the reference has a row in use with the column
pub record HasColumn (column : ℕ) (now : Slots) (at : RowRef) : Type 0 where
  pub row : List Value
  pub live : now at ≡ Live row
  pub column_in : column < length row
