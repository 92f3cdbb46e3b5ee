-- Cascaded rows, by the places of tables.
use Rattle.std.specs.Prelude.{◌≡◌, ◌+◌, ◌||◌, ℕ, Bool, List, [], ◌∷◌, Option, Some, None, All, Contains}
use Rattle.std.specs.List.{cons_option, filter_map, list_any}
use Rattle.std.specs.Option.{unwrap_or}
use Rattle.mm_partition.specs.Places.{IsLive, slot_at}
use Rattle.mm_tables.specs.Edits.{same_ref}
use Rattle.mm_indexed.specs.Kept.{StoredRows}
use Rattle.mm_row_order.specs.Refs.{row_at}
use Rattle.mm_schema.specs.Columns.{cascading_target}
use Rattle.mm_schema.specs.References.{refers}
use Rattle.mm_schema.specs.Rows.{Pair}
use Rattle.mm_schema.specs.Schema.{Schema, table_place}
use Rattle.mm_schema.specs.declared.column.Column.{Column}
use Rattle.mm_tables.specs.declared.edit.Edit.{Edit}
use Rattle.mm_base.specs.Columns.{IsReference}
use Rattle.mm_store.specs.Tables.{IsAt, Tables, key_at}
use Rattle.mm_value.specs.declared.row_ref.RowRef.{RowRef}
use Rattle.mm_value.specs.declared.values.Value.{Value}
use Rattle.mm_txn.specs.PlacedEdits.{FitsAt, PlacedEdits, edits_at, pairs_at}
use Rattle.mm_txn.specs.declared.cascades.Cascade.{Cascade}

-- A column, and the edits of the table that it refers to.
abbrev pub PlacedCascade : Type 0
PlacedCascade = ℕ × PlacedEdits

abbrev pub placed_cascade : Cascade → PlacedCascade
placed_cascade cascade = (cascade.column, (cascade.to, cascade.gone.now))

-- The column with the edits, or none if there is no edit.
abbrev pub unless_none : ℕ → ℕ → List Edit → Option PlacedCascade
unless_none column to [] = None
unless_none column to (edit ∷ edits) = Some (column, (to, edit ∷ edits))

-- A column with the edits of the table with a name, if there are any.
abbrev pub cascade_to : Schema → List PlacedEdits → ℕ → Option (List ℕ) → Option PlacedCascade
cascade_to schema changes column None = None
cascade_to schema changes column (Some name) =
    unless_none column (unwrap_or (table_place name schema) 0) (edits_at changes (unwrap_or (table_place name schema) 0))

-- The CASCADE columns from a place on that refer to tables with edits, each with these edits.
abbrev pub cascades_from : Schema → List PlacedEdits → ℕ → List Column → List PlacedCascade
cascades_from schema changes place [] = []
cascades_from schema changes place (column ∷ columns) =
    cons_option (cascade_to schema changes place (cascading_target column)) (cascades_from schema changes (place + 1) columns)

-- The rows that edits delete from the relation at their place.
abbrev pub rows_gone : List StoredRows → PlacedEdits → List (List Value)
rows_gone relations change = filter_map (λ (p : Pair). p.0) (pairs_at relations change)

-- A row has the key of one of the deleted rows in a column.
abbrev pub is_cascaded_by : List StoredRows → ℕ → PlacedEdits → List Value → Bool
is_cascaded_by relations column change row = list_any (refers column (key_at relations change.0) row) (rows_gone relations change)

-- A row has the key of a deleted row in one of the columns.
abbrev pub is_cascaded_by_some : List StoredRows → List PlacedCascade → List Value → Bool
is_cascaded_by_some relations cascades row = list_any (λ (a : PlacedCascade). is_cascaded_by relations a.0 a.1 row) cascades

-- The column of the table at a place refers to the table of the edits and to no other, and the edits fit the relation of that table.
pub record IsCascade (store : Tables) (table column : ℕ) (change : PlacedEdits) : Type 0 where
  pub link : IsReference store.links table column change.0
  pub fit : FitsAt store change

-- References are appended: those of the rows that pass a test. All references are of live rows, if the old ones were.
pub record AddsReferrers (stored : StoredRows) (test : List Value → Bool) (old new : List RowRef) : Type 0 where
  pub live : All (IsLive stored.places) old → All (IsLive stored.places) new
  pub found : (at : RowRef) → Contains stored.refs at
      → list_any (same_ref at) new ≡ list_any (same_ref at) old || test (row_at (slot_at stored.places) at)

-- The references of the rows of the relation at a place to which deletions cascade by a column are appended.
abbrev pub AddsCascaded : Tables → ℕ → PlacedCascade → List RowRef → List RowRef → Type 0
AddsCascaded store place cascade old new =
    (stored : StoredRows) → IsAt store place stored → AddsReferrers stored (is_cascaded_by store.tables cascade.0 cascade.1) old new
