-- A store as its tables and their foreign keys.
use Rattle.std.specs.Prelude.{◌≡◌, ℕ, ◌==◌, ◌&&◌, Bool, List, [], map, slice_get, slice_set, Some}
use Rattle.std.specs.List.{list_any}
use Rattle.std.specs.Option.{option_map_or}
use Rattle.mm_indexed.specs.Index.{EachTurns, SameIndex}
use Rattle.mm_indexed.specs.Kept.{StoredRows}
use Rattle.mm_indexed.specs.RowLists.{rows_of}
use Rattle.mm_schema.specs.Rows.{Pair}
use Rattle.mm_value.specs.declared.values.Value.{Value}
use Rattle.mm_schema.specs.References.{lacks_target_row, lose_targets}
use Rattle.mm_schema.specs.declared.reference.Reference.{Reference}
use Rattle.mm_base.specs.Bases.{Base, references_of}
use Rattle.mm_link.specs.declared.link.Link.{Link}
use Rattle.mm_tables.specs.Tables.{Stored}
use Rattle.mm_tables.specs.declared.logged_table.LoggedTable.{LoggedTable}

-- The tables and their references, in the order of creation: the tables with the log of the open transaction, and the ties of the
-- references.
pub record Tables : Type 0 where
  pub tables : List StoredRows
  pub links : List Reference
  pub stored : Stored
  pub ties : List Link

-- The model of base tables for callers.
abbrev pub tables_of : Base → Tables
tables_of b = record {
  tables = map (λ (table : LoggedTable). table.rows) b.stored.tables;
  links = references_of b.links;
  stored = b.stored;
  ties = b.links;
}

-- The table at a place.
abbrev pub IsAt : Tables → ℕ → StoredRows → Type 0
IsAt store place stored = slice_get store.tables place ≡ Some stored

-- The table at a place is replaced, and all others are unchanged.
abbrev pub Turns : Tables → ℕ → StoredRows → Tables → Type 0
Turns old place stored new = new.tables ≡ slice_set old.tables place stored

-- The rows of the table at a place, and none if there is no such table.
abbrev pub rows_at : List StoredRows → ℕ → List (List Value)
rows_at tables place = option_map_or rows_of (slice_get tables place) []

-- The place of the key column of the table at a place, and 0 if there is no such table.
abbrev pub key_at : List StoredRows → ℕ → ℕ
key_at tables place = option_map_or (λ stored. stored.key) (slice_get tables place) 0

-- The reference is from the table, and one of these rows of it refers to no row.
abbrev pub finds_orphan : List StoredRows → ℕ → List (List Value) → Reference → Bool
finds_orphan tables table rows reference =
    (reference.from == table) && list_any (lacks_target_row reference.column (key_at tables reference.to) (rows_at tables reference.to)) rows

-- One of these rows of a table refers to no row.
abbrev pub has_orphans : Tables → ℕ → List (List Value) → Bool
has_orphans store table rows = list_any (finds_orphan store.tables table rows) store.links

-- The reference is to the table with this key column, and the pairs of its change delete a referenced row or change its key.
abbrev pub makes_orphan : List StoredRows → ℕ → ℕ → List Pair → Reference → Bool
makes_orphan tables table key pairs reference =
    (reference.to == table) && lose_targets reference.column key (rows_at tables reference.from) pairs

-- The pairs of a change of the table delete a row that is referenced from another table, or change its key.
abbrev pub makes_orphans : Tables → ℕ → ℕ → List Pair → Bool
makes_orphans store table key pairs = list_any (makes_orphan store.tables table key pairs) store.links

-- A table keeps the types of its columns, its key and its indexes.
pub record SameForm (old new : StoredRows) : Type 0 where
  pub types : new.places.types ≡ old.places.types
  pub key : new.key ≡ old.key
  pub indexes : EachTurns SameIndex old.indexes new.indexes

-- The table has these rows, and keeps the types of its columns, its key and its indexes.
pub record HasRows (old : StoredRows) (rows : List (List Value)) (new : StoredRows) : Type 0 where
  pub rows_are : rows_of new ≡ rows
  pub types : new.places.types ≡ old.places.types
  pub key : new.key ≡ old.key
  pub indexes : EachTurns SameIndex old.indexes new.indexes

-- Each table keeps its rows, the types of its columns, its key and its indexes.
abbrev pub KeepsRows : Tables → Tables → Type 0
KeepsRows old new = EachTurns (λ stored now. HasRows stored (rows_of stored) now) old.tables new.tables
