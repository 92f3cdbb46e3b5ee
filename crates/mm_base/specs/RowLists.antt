-- The rows of slots, as a list.
use Rattle.std.specs.Prelude.{ℕ, ◌-◌, ◌^◌, ◌<◌, Bool, true, false, List, filter, map}
use Rattle.std.specs.List.{range_with_len}
use Rattle.mm_value.specs.declared.row_ref.RowRef.{RowRef}
use Rattle.mm_value.specs.declared.values.Value.{Value}
use Rattle.mm_schema.specs.Rows.{column_cmp}
use Rattle.mm_schema.specs.Sorting.{in_order}
use Rattle.mm_partition.specs.Places.{Content, Free, Live, Hidden}
use Rattle.mm_row_order.specs.Refs.{Slots, HasRow, row_at}

-- The slot has a row in use.
abbrev pub is_live : Content → Bool
is_live Free = false
is_live (Live row) = true
is_live (Hidden row) = false

-- The reference to the slot of an index.
abbrev pub reference_at : ℕ → RowRef
reference_at index = record { slot = index }

-- The references to the slots below an index, in order.
unfoldable pub references_below : ℕ → List RowRef
references_below n = map reference_at (range_with_len 0 n)

-- The references to all slots that a table can have.
unfoldable pub every_reference : List RowRef
every_reference = references_below (2 ^ 32 - 1)

-- The references of the rows in use.
abbrev pub live_references : Slots → List RowRef
live_references now = filter (λ at. is_live (now at)) every_reference

-- The rows in use, in the order of the key.
abbrev pub rows_in : ℕ → Slots → List (List Value)
rows_in key now = in_order (column_cmp key) (map (row_at now) (live_references now))

-- The slot of each row in use is below 2^32 - 1.
abbrev pub AreSmall : Slots → Type 0
AreSmall now = (at : RowRef) → HasRow now at → at.slot < 2 ^ 32 - 1
