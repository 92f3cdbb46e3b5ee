-- The edits of a command as the pairs of a change.
use Rattle.std.specs.Prelude.{ℕ, List, Option, Some, None}
use Rattle.std.specs.List.{filter_map}
use Rattle.mm_value.specs.declared.values.Value.{Value}
use Rattle.mm_schema.specs.Rows.{Pair, changed}
use Rattle.mm_row_order.specs.Refs.{Slots, row_at}
use Rattle.mm_tables.specs.declared.edit.Edit.{Edit}
use Rattle.mm_tables.specs.declared.edit.Edit.TheVariants.{Stage, Insert, Update, Move, Delete}
use Rattle.mm_base.specs.RowLists.{rows_in}

-- The old row of an edit and its new row, each if there is one. A row that is only staged does not count as a change.
abbrev pub edit_pair : Slots → Edit → Option Pair
edit_pair now (Stage r) = None
edit_pair now (Insert r) = Some (None, Some (row_at now r))
edit_pair now (Update a b) = Some (Some (row_at now a), Some (row_at now b))
edit_pair now (Move a b) = Some (Some (row_at now a), Some (row_at now b))
edit_pair now (Delete r) = Some (Some (row_at now r), None)

-- The pairs of all edits.
abbrev pub edit_pairs : Slots → List Edit → List Pair
edit_pairs now edits = filter_map (edit_pair now) edits

-- The rows in use after edits.
abbrev pub rows_with : ℕ → Slots → List Edit → List (List Value)
rows_with key now edits = changed key (edit_pairs now edits) (rows_in key now)
