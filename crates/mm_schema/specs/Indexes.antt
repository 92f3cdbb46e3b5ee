-- The indexes of the tables, and the conditions on creating and dropping one.
use Rattle.std.specs.Prelude.{◌≡◌, ℕ, Bool, false, not, ◌||◌, if◌then◌else◌, List, [], ◌∷◌, ◌++◌, Option, All, filter, find, is_none, is_some, length, map}
use Rattle.std.specs.Prelude.{nat_le}
use Rattle.std.specs.List.{flat_map, list_any}
use Rattle.mm_schema.specs.Columns.{column_place}
use Rattle.mm_schema.specs.Name.{same_name}
use Rattle.mm_schema.specs.Refused.{Condition}
use Rattle.mm_schema.specs.Schema.{Schema, lacks_table, table_passes}
use Rattle.mm_schema.specs.declared.index.IndexDef.{IndexDef}
use Rattle.mm_schema.specs.declared.table.Table.{Table}
use Rattle.mm_value.specs.declared.refusal.Refusal.TheVariants.{NameTaken, NoSuchColumn, NoSuchIndex, NoSuchTable, TooMany}

-- The indexes of tables, in the order of the tables.
abbrev pub indexes_of : List Table → List IndexDef
indexes_of tables = flat_map (λ table. table.indexes) tables

-- The index with a name, in any table.
abbrev pub index_named : List ℕ → Schema → Option IndexDef
index_named name schema = find (λ index. same_name name index.name) (indexes_of schema.tables)

-- No index has the name.
abbrev pub lacks_index : List ℕ → Schema → Bool
lacks_index name schema = is_none (index_named name schema)

-- Two indexes have the same name.
abbrev pub has_duplicate_indexes : List IndexDef → Bool
has_duplicate_indexes [] = false
has_duplicate_indexes (i ∷ is) = list_any (λ j. same_name i.name j.name) is || has_duplicate_indexes is

-- No two indexes have the same name.
abbrev pub HasDistinctIndexes : Schema → Type 0
HasDistinctIndexes schema = has_duplicate_indexes (indexes_of schema.tables) ≡ false

-- Each index of the table names that table.
abbrev pub HasOwnIndexes : Table → Type 0
HasOwnIndexes table = All (λ index. index.table ≡ table.definition.name) table.indexes

-- Each index is in the table that it names.
abbrev pub HasIndexesInPlace : Schema → Type 0
HasIndexesInPlace schema = All HasOwnIndexes schema.tables

-- The conditions that refuse a new index, in the order of refusals. A table has at most 16.
abbrev pub index_conditions : IndexDef → Schema → List Condition
index_conditions index schema =
    record { holds = lacks_table index.table schema; refusal = NoSuchTable }
    ∷ record { holds = table_passes (λ t. is_none (column_place index.column t.definition.columns)) index.table schema; refusal = NoSuchColumn }
    ∷ record { holds = is_some (index_named index.name schema); refusal = NameTaken }
    ∷ record { holds = table_passes (λ t. nat_le 16 (length t.indexes)) index.table schema; refusal = TooMany }
    ∷ []

-- The table, with a new index appended if the index names the table.
abbrev pub table_with_index : IndexDef → Table → Table
table_with_index index table =
    if same_name index.table table.definition.name then record table { indexes = table.indexes ++ index ∷ [] } else table

-- The catalog with a new index appended to its table.
abbrev pub with_index : IndexDef → Schema → Schema
with_index index schema = record schema { tables = map (table_with_index index) schema.tables }

-- The conditions that refuse dropping an index.
abbrev pub drop_index_conditions : List ℕ → Schema → List Condition
drop_index_conditions name schema = record { holds = lacks_index name schema; refusal = NoSuchIndex } ∷ []

-- The table without the index with a name.
abbrev pub table_without_index : List ℕ → Table → Table
table_without_index name table = record table { indexes = filter (λ index. not (same_name name index.name)) table.indexes }

-- The catalog without the index with a name.
abbrev pub without_index : List ℕ → Schema → Schema
without_index name schema = record schema { tables = map (table_without_index name) schema.tables }
