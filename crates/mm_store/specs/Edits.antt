-- The edits of a table: their effect, and the refusals. A new row is in a hidden slot until its edit is made.
use Rattle.std.specs.Prelude.{ℕ, List, Option, Some, None, All, filter_map, map}
use Rattle.mm_indexed.specs.Kept.{StoredRows}
use Rattle.mm_indexed.specs.RowLists.{rows_of}
use Rattle.mm_link.specs.Targets.{pair_of}
use Rattle.mm_partition.specs.Places.{slot_at}
use Rattle.mm_partition.specs.Types.{HasTypes}
use Rattle.mm_row_order.specs.Refs.{Slots}
use Rattle.mm_schema.specs.Refused.{Condition}
use Rattle.mm_schema.specs.Rows.{Pair, changed, table_rows_conditions}
use Rattle.mm_tables.specs.Commands.{IsCommand}
use Rattle.mm_tables.specs.declared.edit.Edit.{Edit}
use Rattle.mm_tables.specs.declared.edit.Edit.TheVariants.{Delete, Insert, Move, Stage, Update}
use Rattle.mm_value.specs.declared.row_ref.RowRef.{RowRef}
use Rattle.mm_value.specs.declared.values.Value.{Value}
use Rattle.mm_store.specs.Tables.{Tables, has_orphans, makes_orphans}

-- The slot of the row that an edit deletes or replaces, if any: a row in use.
abbrev pub old_slot : Edit → Option RowRef
old_slot (Stage at) = None
old_slot (Insert at) = None
old_slot (Update at other) = Some at
old_slot (Move at other) = Some at
old_slot (Delete at) = Some at

-- The slot of the new row of an edit, if any: a hidden row.
abbrev pub new_slot : Edit → Option RowRef
new_slot (Stage at) = None
new_slot (Insert at) = Some at
new_slot (Update at other) = Some other
new_slot (Move at other) = Some other
new_slot (Delete at) = None

-- The old and the new rows of edits, as pairs.
abbrev pub pairs_of : Slots → List Edit → List Pair
pairs_of now edits = map (pair_of now) edits

-- The rows that edits delete or replace, and their new rows.
abbrev pub rows_gone : Slots → List Edit → List (List Value)
rows_gone now edits = filter_map (λ (p : Pair). p.0) (pairs_of now edits)

abbrev pub rows_come : Slots → List Edit → List (List Value)
rows_come now edits = filter_map (λ (p : Pair). p.1) (pairs_of now edits)

-- A table's rows after edits.
abbrev pub rows_after : StoredRows → List Edit → List (List Value)
rows_after stored edits = changed stored.key (pairs_of (slot_at stored.places) edits) (rows_of stored)

-- The conditions that refuse the edits of a table, in the one order.
abbrev pub conditions_of : Tables → ℕ → StoredRows → List Edit → List Condition
conditions_of store table stored edits =
    table_rows_conditions stored.key (rows_after stored edits) (has_orphans store table (rows_after stored edits))
    (makes_orphans store table stored.key (pairs_of (slot_at stored.places) edits))

-- The edits may be made together: their old rows are in use, their new rows are hidden, and no two edits have a slot in common.
abbrev pub AreReady : StoredRows → List Edit → Type 0
AreReady stored edits = IsCommand stored.key edits (slot_at stored.places)

-- The edits may be made together, and their new rows have the types of the table's columns.
pub record AreFit (stored : StoredRows) (edits : List Edit) : Type 0 where
  pub ready : AreReady stored edits
  pub typed : All (HasTypes stored.places.types) (rows_come (slot_at stored.places) edits)
