-- A store keeps the tables of a catalog, each as a relation.
use Rattle.std.specs.Prelude.{◌≡◌, All, List, [], ◌∷◌, Some, map}
use Rattle.mm_indexed.specs.Index.{column_of, kind_of}
use Rattle.mm_indexed.specs.Kept.{StoredRows}
use Rattle.mm_indexed.specs.RowLists.{rows_of}
use Rattle.mm_indexed.specs.declared.indexes.index.Index.{Index}
use Rattle.mm_schema.specs.Columns.{column_place, key_count, key_place}
use Rattle.mm_schema.specs.Instance.{Instance}
use Rattle.mm_schema.specs.References.{HasTargets, RefersBack, RefersToOthers, all_references}
use Rattle.mm_schema.specs.Schema.{Schema}
use Rattle.mm_schema.specs.declared.column.Column.{Column}
use Rattle.mm_schema.specs.declared.index.IndexDef.{IndexDef}
use Rattle.mm_schema.specs.declared.table.Table.{Table}
use Rattle.mm_store.specs.Tables.{Tables}

-- The rows of each relation.
abbrev pub instance_of : List StoredRows → Instance
instance_of stored = map rows_of stored

-- The index is on the named column, and of the defined kind.
pub record IsIndex (columns : List Column) (definition : IndexDef) (index : Index) : Type 0 where
  pub column : column_place definition.column columns ≡ Some (column_of index)
  pub kind : kind_of index ≡ definition.kind

-- The indexes are the defined ones, in the same order.
abbrev pub AreIndexes : List Column → List IndexDef → List Index → Type 0
AreIndexes columns [] [] = Unit {0}
AreIndexes columns (d ∷ ds) (x ∷ xs) = IsIndex columns d x × AreIndexes columns ds xs
AreIndexes columns [] (x ∷ xs) = ⊥
AreIndexes columns (d ∷ ds) [] = ⊥

-- The relation has the types of the table's columns, its key and its indexes.
pub record IsOf (table : Table) (stored : StoredRows) : Type 0 where
  pub key : stored.key ≡ key_place table.definition.columns
  pub types : stored.places.types ≡ map (λ (c : Column). c.col_type) table.definition.columns
  pub indexes : AreIndexes table.definition.columns table.indexes stored.indexes

-- There is exactly one relation for each table.
abbrev pub AreOf : List Table → List StoredRows → Type 0
AreOf [] [] = Unit {0}
AreOf (t ∷ ts) (r ∷ rs) = IsOf t r × AreOf ts rs
AreOf [] (r ∷ rs) = ⊥
AreOf (t ∷ ts) [] = ⊥

-- There is exactly one relation for each table, and the store has the catalog's references. Each refers to another table that exists and is
-- older.
pub record AreKept (schema : Schema) (store : Tables) : Type 0 where
  pub relations : AreOf schema.tables store.tables
  pub links : store.links ≡ all_references schema
  pub targets : HasTargets schema
  pub others : RefersToOthers schema
  pub back : RefersBack [] schema.tables

-- Each table has exactly one key column.
abbrev pub HaveOneKey : List Table → Type 0
HaveOneKey tables = All (λ table. key_count table.definition.columns ≡ 1) tables
