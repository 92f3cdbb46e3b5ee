-- Tables and rows that a dump restores.
use Rattle.std.specs.Prelude.{◌≡◌, ◌≤◌, ℕ, true, false, All, List, [], ◌∷◌, ◌++◌, None, is_some, length, map}
use Rattle.std.specs.List.{AllZip}
use Rattle.mm_value.specs.declared.values.Value.{Value}
use Rattle.mm_schema.specs.Columns.{column_place}
use Rattle.mm_schema.specs.Indexes.{HasOwnIndexes, has_duplicate_indexes, indexes_of}
use Rattle.mm_schema.specs.Instance.{AreInKeyOrder, Instance}
use Rattle.mm_schema.specs.Refused.{first_refusal}
use Rattle.mm_schema.specs.Rows.{most_rows}
use Rattle.mm_schema.specs.Schema.{table_conditions}
use Rattle.mm_schema.specs.declared.index.IndexDef.{IndexDef}
use Rattle.mm_schema.specs.declared.table.Table.{Table}
use Rattle.mm_query.specs.Machine.{some_lacks_target}
use Rattle.mm_query.specs.State.{State}
use Rattle.mm_laws.specs.Typing.{AreTyped}
use Rattle.mm_dump.specs.Entries.{Entry}
use Rattle.mm_dump.specs.Dumps.{AreGroups, Groups, index_entries, rows_entries, table_entries}

-- The state of tables and rows, with no standing query and no transaction.
abbrev pub state_of : List Table → Instance → State
state_of tables rows = record { schema = record { tables = tables; standing = [] }; rows = rows; queries = []; saved = None }

-- A dump of tables and their rows: first all tables, then all rows, then all indexes.
abbrev pub IsTablesDump : List Table → Instance → List Entry → Type 0
IsTablesDump tables rows entries =
    (groups : List Groups) × AllZip AreGroups rows groups × (entries ≡ table_entries tables ++ (rows_entries tables groups ++ index_entries tables))

-- The table without its indexes.
abbrev pub without_indexes : Table → Table
without_indexes table = record table { indexes = [] }

-- Tables that can be created one after another, after some earlier ones.
abbrev pub AreCreatable : List Table → List Table → Type 0
AreCreatable earlier [] = Unit {0}
AreCreatable earlier (table ∷ tables) =
    (first_refusal (table_conditions table.definition (record { tables = map without_indexes earlier; standing = [] })) ≡ None)
    × AreCreatable (earlier ++ table ∷ []) tables

-- A table has at most 16 indexes, each on one of its columns.
pub record HasIndexLimits (table : Table) : Type 0 where
  pub few : length table.indexes ≤ 16
  pub there : All (λ (index : IndexDef). is_some (column_place index.column table.definition.columns) ≡ true) table.indexes

-- Tables and rows that a dump restores, with no standing query and no transaction.
pub record AreRestorable (tables : List Table) (rows : Instance) : Type 0 where
  pub creatable : AreCreatable [] tables
  -- The rows are in key order, have the types of their columns, and refer to rows that exist, at most 1,048,576 in a table.
  pub order : AreInKeyOrder tables rows
  pub typed : AreTyped tables rows
  pub targets : (name : List ℕ) → some_lacks_target name (state_of tables rows) ≡ false
  pub sizes : All (λ (table_rows : List (List Value)). length table_rows ≤ most_rows) rows
  -- Each index is in the table that it names, and no two have the same name.
  pub in_place : All HasOwnIndexes tables
  pub distinct : has_duplicate_indexes (indexes_of tables) ≡ false
  pub limits : All HasIndexLimits tables
