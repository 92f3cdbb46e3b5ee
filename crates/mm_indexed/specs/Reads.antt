-- The results of reads along an index.
use Rattle.std.specs.Prelude.{◌≡◌, ℕ, ◌<◌, Bool, List, ◌++◌, Option, Some, length, filter, IsPermutation, slice_get, slice_index_or}
use Rattle.std.specs.Ordering.{is_eq}
use Rattle.mm_value.specs.declared.row_ref.RowRef.{RowRef}
use Rattle.mm_value.specs.declared.values.Value.{Value}
use Rattle.mm_order.specs.Probe.{entries_between}
use Rattle.mm_partition.specs.Places.{slot_at}
use Rattle.mm_row_order.specs.Ends.{end_place}
use Rattle.mm_row_order.specs.InOrder.{InOrder}
use Rattle.mm_row_order.specs.Refs.{Slots, HasRow, place_by, row_at}
use Rattle.mm_indexed.specs.Index.{IsOn}
use Rattle.mm_indexed.specs.Kept.{StoredRows}
use Rattle.mm_indexed.specs.declared.indexes.index.Index.{Index}
use Rattle.mm_schema.specs.declared.index.IndexKind.{IndexKind}

-- The index at this place, counted from 0, has this column and is of this kind.
abbrev pub HasIndex : List Index → ℕ → ℕ → IndexKind → Type 0
HasIndex indexes place column kind = (place < length indexes) × ((d : Index) → IsOn column kind (slice_index_or indexes place d))

-- No row in use other than that of this reference has this value in the column.
abbrev pub IsOnly : ℕ → Slots → Value → RowRef → Type 0
IsOnly column now value at = (other : RowRef) → HasRow now other → slice_get (row_at now other) column ≡ Some value → other ≡ at

-- The references of all rows in use in the order of a column, then of the key, then of the slot.
pub record IsWalk (column : ℕ) (stored : StoredRows) (walk : List RowRef) : Type 0 where
  pub ordered : InOrder column stored.key (slot_at stored.places) walk
  pub same : IsPermutation walk stored.refs

-- The references of the rows whose values are not before the low end of a range and not after its high end, in the order of the walk.
abbrev pub IsRange : ℕ → StoredRows → Option Value → Option Value → List RowRef → Type 0
IsRange column stored low high found = (walk : List RowRef) × IsWalk column stored walk
    × (found ≡ entries_between (end_place column (slot_at stored.places) low) (end_place column (slot_at stored.places) high) walk)

-- The row has this value in the column.
abbrev pub has_value : ℕ → Slots → Value → RowRef → Bool
has_value column now value at = is_eq (place_by column now value at)

-- These references, in some order, are those of the rows that have this value in the column.
abbrev pub AreMatches : ℕ → Slots → Value → List RowRef → List RowRef → Type 0
AreMatches column now value refs found = IsPermutation found (filter (has_value column now value) refs)

-- A list with this property was appended.
abbrev pub Appends : (List RowRef → Type 0) → List RowRef → List RowRef → Type 0
Appends Holds old new = (found : List RowRef) × (new ≡ old ++ found) × Holds found
