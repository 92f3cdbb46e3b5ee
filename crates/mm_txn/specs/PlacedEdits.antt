-- The edits of a change of rows, with the places of their tables.
use Rattle.std.specs.Prelude.{◌≡◌, ◌==◌, ◌&&◌, ℕ, ◌<◌, Bool, List, [], ◌∷◌, All, AllPairs, Some, find, length, map, slice_get}
use Rattle.std.specs.List.{list_any}
use Rattle.std.specs.Option.{option_map_or}
use Rattle.mm_partition.specs.Places.{slot_at}
use Rattle.mm_store.specs.Edits.{AreFit, pairs_of, rows_after}
use Rattle.mm_indexed.specs.Kept.{StoredRows}
use Rattle.mm_tables.specs.declared.edit.Edit.{Edit}
use Rattle.mm_schema.specs.Instance.{TableEdits as NamedEdits}
use Rattle.mm_schema.specs.References.{lose_targets}
use Rattle.mm_schema.specs.Refused.{Condition}
use Rattle.mm_schema.specs.Rows.{Pair, table_rows_conditions}
use Rattle.mm_schema.specs.Schema.{Schema, table_place}
use Rattle.mm_schema.specs.declared.reference.Reference.{Reference}
use Rattle.mm_schema.specs.declared.table.Table.{Table}
use Rattle.mm_store.specs.Tables.{HasRows, IsAt, Tables, has_orphans, key_at}
use Rattle.mm_query.specs.Edits.{changed_table, edits, own_pairs}
use Rattle.mm_query.specs.declared.command.Mutation.{Mutation}
use Rattle.mm_delta.specs.declared.edited.TableChange.{TableChange}
use Rattle.mm_standing.specs.Queries.{RowsByPlace}
use Rattle.mm_txn.specs.Kept.{state_of}
use Rattle.mm_txn.specs.RowEdits.{BringNone}
use Rattle.mm_txn.specs.declared.edits.RelationEdits.{RelationEdits}

-- Edits of the relation of the table at a place.
abbrev pub PlacedEdits : Type 0
PlacedEdits = ℕ × List Edit

abbrev pub placed : RelationEdits → PlacedEdits
placed edits = (edits.table, edits.edits)

-- The edits of a change that the lists read, with the place of the table.
abbrev pub placed_change : TableChange → PlacedEdits
placed_change change = (change.table, change.edits.now)

-- The edits of the table at a place, and none if it has none.
abbrev pub edits_at : List PlacedEdits → ℕ → List Edit
edits_at changes place = option_map_or (λ (c : PlacedEdits). c.1) (find (λ (c : PlacedEdits). c.0 == place) changes) []

-- The rows of the table at each place once all edits are made.
abbrev pub rows_edited : Tables → List PlacedEdits → RowsByPlace
rows_edited store changes place = option_map_or (λ stored. rows_after stored (edits_at changes place)) (slice_get store.tables place) []

-- The rows that edits delete or replace, with their new rows.
abbrev pub pairs_at : List StoredRows → PlacedEdits → List Pair
pairs_at relations change = option_map_or (λ stored. pairs_of (slot_at stored.places) change.1) (slice_get relations change.0) []

-- The pairs of the edits, with the name of the table.
abbrev pub named : Schema → List StoredRows → PlacedEdits → NamedEdits
named schema relations change = record {
  table = option_map_or (λ (t : Table). t.definition.name) (slice_get schema.tables change.0) [];
  pairs = pairs_at relations change;
}

-- The relation of the edits' table exists, and the edits fit it.
abbrev pub FitsAt : Tables → PlacedEdits → Type 0
FitsAt store change = (stored : StoredRows) × IsAt store change.0 stored × AreFit stored change.1

-- Edits of tables: each table occurs once, in the order of creation. If there is more than one table, the edits only delete rows.
pub record AreEdits (store : Tables) (changes : List PlacedEdits) : Type 0 where
  pub fit : All (FitsAt store) changes
  pub ascend : AllPairs (λ (a b : PlacedEdits). a.0 < b.0) changes
  pub removals : 1 < length changes → All (λ (c : PlacedEdits). BringNone c.1) changes

-- Edits are for the relation of the table that a change names. They may be made together, each new row has the types of the columns, and
-- the old and new rows are the pairs of that table.
pub record AreOwnEditsOf (mutation : Mutation) (schema : Schema) (relations : List StoredRows) (place : ℕ) (edits : List Edit) : Type 0 where
  pub placed : table_place (changed_table mutation) schema ≡ Some place
  pub fit : (stored : StoredRows) → slice_get relations place ≡ Some stored → AreFit stored edits
  pub pairs : (stored : StoredRows) → slice_get relations place ≡ Some stored
      → pairs_of (slot_at stored.places) edits ≡ own_pairs mutation (state_of schema relations)

-- The first edits are for the table that a change names, and all of them together are those of the change.
pub record AreEditsOf (mutation : Mutation) (schema : Schema) (store : Tables) (own : PlacedEdits) (cascaded : List PlacedEdits) : Type 0 where
  pub placed : table_place (changed_table mutation) schema ≡ Some own.0
  pub are : AreEdits store (own ∷ cascaded)
  pub named : map (named schema store.tables) (own ∷ cascaded) ≡ edits mutation (state_of schema store.tables)

-- ---- refusals of edits

-- The reference is to the table of some edits, and they delete a row or change its key, although a row refers to it after all edits.
abbrev pub leaves_orphan : Tables → List PlacedEdits → PlacedEdits → Reference → Bool
leaves_orphan store changes change reference =
    (reference.to == change.0)
    && lose_targets reference.column (key_at store.tables change.0) (rows_edited store changes reference.from) (pairs_at store.tables change)

-- Some edits leave an orphan by some reference.
abbrev pub leaves_orphans : Tables → List PlacedEdits → Bool
leaves_orphans store changes = list_any (λ (change : PlacedEdits). list_any (leaves_orphan store changes change) store.links) changes

-- The conditions that refuse edits, in the order of refusals. The first edits are for this relation.
abbrev pub edits_conditions : Tables → StoredRows → PlacedEdits → List PlacedEdits → List Condition
edits_conditions store stored own cascaded =
    table_rows_conditions stored.key (rows_after stored own.1) (has_orphans store own.0 (rows_after stored own.1)) (leaves_orphans store (own ∷ cascaded))

-- ---- the rows after edits

-- Each relation has the rows for its place, with the columns, the key and the indexes that it had.
pub record HaveRows (rows : RowsByPlace) (old new : Tables) : Type 0 where
  pub count : length new.tables ≡ length old.tables
  pub each : (place : ℕ) (stored : StoredRows) → IsAt old place stored → (now : StoredRows) × IsAt new place now × HasRows stored (rows place) now
