-- Foreign keys: columns whose values are keys of another table (referential integrity, Codd, TODS 1979).
use Rattle.std.specs.Prelude.{◌≡◌, ℕ, ◌+◌, ◌-◌, Bool, true, false, not, ◌&&◌, if◌then◌else◌, All, List, [], ◌∷◌, ◌++◌, Option, Some, None, map, nat_lt}
use Rattle.std.specs.Prelude.{slice_get}
use Rattle.std.specs.List.{AllByRecursion, list_any}
use Rattle.std.specs.Option.{option_cmp, unwrap_or}
use Rattle.std.specs.Ordering.{is_eq}
use Rattle.mm_value.specs.Order.{value_cmp}
use Rattle.mm_value.specs.declared.values.Value.{Value}
use Rattle.mm_schema.specs.Columns.{cascading_target, refers_to, target_of}
use Rattle.mm_schema.specs.Name.{same_name}
use Rattle.mm_schema.specs.Rows.{Pair, same_in_column}
use Rattle.mm_schema.specs.Schema.{Schema, lacks_target, table_place}
use Rattle.mm_schema.specs.declared.column.Column.{Column}
use Rattle.mm_schema.specs.declared.reference.Reference.{Reference}
use Rattle.mm_schema.specs.declared.table.Table.{Table}

-- Each column that refers to a table refers to an existing one.
abbrev pub HasTargets : Schema → Type 0
HasTargets schema = All (λ table. list_any (lacks_target schema) table.definition.columns ≡ false) schema.tables

-- No column refers to its own table.
abbrev pub RefersToOthers : Schema → Type 0
RefersToOthers schema = All (λ table. list_any (refers_to table.definition.name) table.definition.columns ≡ false) schema.tables

-- ---- columns

-- a column's position and the name of the table that it refers to, prepended to others; only the others if it refers to no table
abbrev pub in_front : ℕ → Option (List ℕ) → List (ℕ × List ℕ) → List (ℕ × List ℕ)
in_front place (Some target) others = (place, target) ∷ others
in_front place None others = others

-- The REF columns from a position on, each with the name of the table that it refers to.
abbrev pub references_from : ℕ → List Column → List (ℕ × List ℕ)
references_from place [] = []
references_from place (column ∷ columns) = in_front place (target_of column) (references_from (place + 1) columns)

-- The REF columns of a table.
abbrev pub references_of : List Column → List (ℕ × List ℕ)
references_of columns = references_from 0 columns

-- The cascading REF columns from a position on, each with the name of the table that it refers to.
abbrev pub cascading_from : ℕ → List Column → List (ℕ × List ℕ)
cascading_from place [] = []
cascading_from place (column ∷ columns) = in_front place (cascading_target column) (cascading_from (place + 1) columns)

-- The cascading REF columns of a table.
abbrev pub cascading_of : List Column → List (ℕ × List ℕ)
cascading_of columns = cascading_from 0 columns

-- A REF column of the table at a position, with the position of the table that it refers to.
abbrev pub reference_at : Schema → ℕ → ℕ × List ℕ → Reference
reference_at schema from (column, target) = record { from = from; column = column; to = unwrap_or (table_place target schema) 0 }

-- The REF columns of the tables from a position on.
abbrev pub references_behind : Schema → ℕ → List Table → List Reference
references_behind schema place [] = []
references_behind schema place (table ∷ tables) =
    map (reference_at schema place) (references_of table.definition.columns) ++ references_behind schema (place + 1) tables

-- All REF columns of a catalog, table by table.
abbrev pub all_references : Schema → List Reference
all_references schema = references_behind schema 0 schema.tables

-- The position of a table after another table is dropped: one less if it was later.
abbrev pub above : ℕ → ℕ → ℕ
above gone place = if nat_lt gone place then place - 1 else place

-- A foreign key after a table is dropped.
abbrev pub moved_up : ℕ → Reference → Reference
moved_up gone reference = record { from = above gone reference.from; column = reference.column; to = above gone reference.to }

-- Each column refers to an older table: one with one of the names, or an earlier one in the list.
abbrev pub RefersBack : List (List ℕ) → List Table → Type 0
RefersBack names [] = Unit {0}
RefersBack names (table ∷ tables) =
    AllByRecursion (λ (r : ℕ × List ℕ). list_any (same_name r.1) names ≡ true) (references_of table.definition.columns)
    × RefersBack (names ++ table.definition.name ∷ []) tables

-- ---- rows

-- A row refers to another row: its value in the column is the other's key.
abbrev pub refers : ℕ → ℕ → List Value → List Value → Bool
refers column key row target = is_eq (option_cmp value_cmp (slice_get row column) (slice_get target key))

-- A row refers to none of the targets.
abbrev pub lacks_target_row : ℕ → ℕ → List (List Value) → List Value → Bool
lacks_target_row column key targets row = not (list_any (refers column key row) targets)

-- One of the rows refers to the target.
abbrev pub is_referred : ℕ → ℕ → List (List Value) → List Value → Bool
is_referred column key rows target = list_any (λ row. refers column key row target) rows

-- A pair deletes a row to which one of the rows refers, or changes its key.
abbrev pub loses_target : ℕ → ℕ → List (List Value) → Option (List Value) → Option (List Value) → Bool
loses_target column key rows None new = false
loses_target column key rows (Some old) None = is_referred column key rows old
loses_target column key rows (Some old) (Some new) = not (same_in_column key old new) && is_referred column key rows old

-- Some pair deletes a row to which one of the rows refers, or changes its key.
abbrev pub lose_targets : ℕ → ℕ → List (List Value) → List Pair → Bool
lose_targets column key rows pairs = list_any (λ (pair : Pair). loses_target column key rows pair.0 pair.1) pairs
