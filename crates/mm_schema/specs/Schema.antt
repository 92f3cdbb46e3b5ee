-- The catalog: its tables and standing queries, and the conditions on creating and dropping a table.
use Rattle.std.specs.Prelude.{ℕ, Bool, false, not, List, [], ◌∷◌, ◌++◌, Option, filter, length, map, find, position, is_some, is_none, nat_lt, nat_le, ◌||◌}
use Rattle.std.specs.Prelude.{◌&&◌}
use Rattle.std.specs.List.{IsDistinct, list_any}
use Rattle.std.specs.Option.{option_map_or, unwrap_or}
use Rattle.mm_schema.specs.Name.{same_name}
use Rattle.mm_schema.specs.Columns.{column_place, differs_from_key, has_duplicate_names, key_place, refers_to, target_of}
use Rattle.mm_schema.specs.Refused.{Condition}
use Rattle.mm_schema.specs.declared.column.Column.{Column}
use Rattle.mm_schema.specs.declared.standing.StandingDef.{StandingDef}
use Rattle.mm_schema.specs.declared.table.Table.{Table}
use Rattle.mm_schema.specs.declared.table.TableDef.{TableDef}
use Rattle.mm_value.specs.declared.refusal.Refusal.TheVariants.{InUse, NameTaken, NoSuchTable, TooMany, TypeMismatch}

-- The tables and the standing queries, each in order of creation.
pub record Schema : Type 0 where
  pub tables : List Table
  pub standing : List StandingDef

-- No two tables have the same name.
abbrev pub HasDistinctNames : Schema → Type 0
HasDistinctNames schema = IsDistinct same_name (map (λ table. table.definition.name) schema.tables)

-- The table with a name.
abbrev pub table_named : List ℕ → Schema → Option Table
table_named name schema = find (λ table. same_name name table.definition.name) schema.tables

-- The position of the table with a name in the order of creation.
abbrev pub table_place : List ℕ → Schema → Option ℕ
table_place name schema = position (λ table. same_name name table.definition.name) schema.tables

-- No table has the name.
abbrev pub lacks_table : List ℕ → Schema → Bool
lacks_table name schema = is_none (table_named name schema)

-- The table with a name exists and passes the test.
abbrev pub table_passes : (Table → Bool) → List ℕ → Schema → Bool
table_passes test name schema = option_map_or test (table_named name schema) false

-- The position of the key column in the table with a name, or 0 if there is none.
abbrev pub key_named : List ℕ → Schema → ℕ
key_named name schema = option_map_or (λ table. key_place table.definition.columns) (table_named name schema) 0

-- The columns of the table with a name, or none if there is no such table.
abbrev pub columns_named : List ℕ → Schema → List Column
columns_named name schema = option_map_or (λ table. table.definition.columns) (table_named name schema) []

-- The position of a column in the table with a name, or 0 if one of them does not exist.
abbrev pub column_place_in : List ℕ → List ℕ → Schema → ℕ
column_place_in table column schema = option_map_or (λ t. unwrap_or (column_place column t.definition.columns) 0) (table_named table schema) 0

-- There would be more than 64 tables, or more than 16 columns in the new one.
abbrev pub exceeds_table_limits : TableDef → Schema → Bool
exceeds_table_limits definition schema = nat_le 64 (length schema.tables) || nat_lt 16 (length definition.columns)

-- The column refers to a table that does not exist.
abbrev pub lacks_target : Schema → Column → Bool
lacks_target schema column = option_map_or (λ table. lacks_table table schema) (target_of column) false

-- The column refers to an existing table, and differs in type from its key column.
abbrev pub mismatches_target : Schema → Column → Bool
mismatches_target schema column =
    option_map_or (λ table. table_passes (λ t. differs_from_key column.col_type t.definition.columns) table schema) (target_of column) false

-- The conditions that refuse a new table, in the order of refusals.
abbrev pub table_conditions : TableDef → Schema → List Condition
table_conditions definition schema =
    record { holds = list_any (lacks_target schema) definition.columns; refusal = NoSuchTable }
    ∷ record { holds = is_some (table_named definition.name schema) || has_duplicate_names definition.columns; refusal = NameTaken }
    ∷ record { holds = list_any (mismatches_target schema) definition.columns; refusal = TypeMismatch }
    ∷ record { holds = exceeds_table_limits definition schema; refusal = TooMany }
    ∷ []

-- The catalog with a new table appended, which has no indexes.
abbrev pub with_table : TableDef → Schema → Schema
with_table definition schema = record schema { tables = schema.tables ++ record { definition = definition; indexes = [] } ∷ [] }

-- The table has another name, and one of its columns refers to the table with this name.
abbrev pub is_other_referring_to : List ℕ → Table → Bool
is_other_referring_to name table = not (same_name name table.definition.name) && list_any (refers_to name) table.definition.columns

-- The standing query reads the table with a name.
abbrev pub reads_table : List ℕ → StandingDef → Bool
reads_table name query = list_any (same_name name) query.tables

-- A column of another table refers to the table with a name, or a standing query reads it.
abbrev pub is_in_use : List ℕ → Schema → Bool
is_in_use name schema = list_any (is_other_referring_to name) schema.tables || list_any (reads_table name) schema.standing

-- The conditions that refuse dropping a table, in the order of refusals.
abbrev pub drop_table_conditions : List ℕ → Schema → List Condition
drop_table_conditions name schema =
    record { holds = lacks_table name schema; refusal = NoSuchTable }
    ∷ record { holds = is_in_use name schema; refusal = InUse }
    ∷ []

-- The catalog without the table with a name; the others keep their order.
abbrev pub without_table : List ℕ → Schema → Schema
without_table name schema = record schema { tables = filter (λ table. not (same_name name table.definition.name)) schema.tables }
