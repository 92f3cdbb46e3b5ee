-- The rows of tables before and after a change by edits.
use Rattle.std.specs.Prelude.{ℕ, ◌==◌, Bool, false, ◌||◌, List, [], filter_map, find, slice_get}
use Rattle.std.specs.List.{list_any}
use Rattle.std.specs.Option.{option_map_or}
use Rattle.mm_partition.specs.Places.{slot_at}
use Rattle.mm_indexed.specs.Index.{column_of}
use Rattle.mm_indexed.specs.Kept.{StoredRows}
use Rattle.mm_indexed.specs.declared.indexes.index.Index.{Index}
use Rattle.mm_store.specs.Edits.{old_slot, rows_after, rows_come, rows_gone}
use Rattle.mm_store.specs.Tables.{Tables, rows_at}
use Rattle.mm_tables.specs.declared.edit.Edit.{Edit}
use Rattle.mm_value.specs.declared.row_ref.RowRef.{RowRef}
use Rattle.mm_value.specs.declared.values.Value.{Value}
use Rattle.mm_delta.specs.Walk.{rows_around}
use Rattle.mm_delta.specs.declared.edited.TableChange.{TableChange}

-- The edits of a table.
abbrev pub edits_at : List TableChange → ℕ → List Edit
edits_at changes table = option_map_or (λ (c : TableChange). c.edits.now) (find (λ (c : TableChange). c.table == table) changes) []

-- The references of the rows that edits delete or replace.
abbrev pub old_slots : List Edit → List RowRef
old_slots edits = filter_map old_slot edits

-- The rows of a table before the change.
abbrev pub before_at : Tables → ℕ → List (List Value)
before_at store table = rows_at store.tables table

-- The rows of a table after the change.
abbrev pub after_at : Tables → List TableChange → ℕ → List (List Value)
after_at store changes table = option_map_or (λ stored. rows_after stored (edits_at changes table)) (slice_get store.tables table) []

-- The deleted and replaced rows of a table.
abbrev pub gone_at : Tables → List TableChange → ℕ → List (List Value)
gone_at store changes table =
    option_map_or (λ stored. rows_gone (slot_at stored.places) (edits_at changes table)) (slice_get store.tables table) []

-- The new rows of a table, which are staged in its hidden slots.
abbrev pub come_at : Tables → List TableChange → ℕ → List (List Value)
come_at store changes table =
    option_map_or (λ stored. rows_come (slot_at stored.places) (edits_at changes table)) (slice_get store.tables table) []

-- A relation has an index on the column. The key always has one.
abbrev pub is_indexed : StoredRows → ℕ → Bool
is_indexed stored column = (column == stored.key) || list_any (λ (index : Index). column_of index == column) stored.indexes

-- The relation of a table has an index on the column.
abbrev pub has_index : Tables → ℕ → ℕ → Bool
has_index store table column = option_map_or (λ stored. is_indexed stored column) (slice_get store.tables table) false

-- The rows at each place of FROM while those at place k are edited: those after the change at places before k, and those before the change
-- at places after it.
abbrev pub walked : Tables → List TableChange → List ℕ → ℕ → ℕ → List (List Value)
walked store changes tables k = rows_around tables k (after_at store changes) (before_at store)
