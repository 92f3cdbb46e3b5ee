-- The columns of a table.
use Rattle.std.specs.Prelude.{ℕ, Bool, true, false, not, if◌then◌else◌, List, [], ◌∷◌, Option, Some, None, count_by, find, position, ◌||◌}
use Rattle.std.specs.List.{list_any, position_or_len}
use Rattle.std.specs.Option.{option_map_or}
use Rattle.mm_schema.specs.Name.{same_name}
use Rattle.mm_schema.specs.declared.column.Column.{Column}
use Rattle.mm_schema.specs.declared.column.OnDelete.{OnDelete}
use Rattle.mm_schema.specs.declared.column.OnDelete.TheVariants.{Cascade, Restrict}
use Rattle.mm_schema.specs.declared.column.Role.{Role}
use Rattle.mm_schema.specs.declared.column.Role.TheVariants.{Key, Plain, Reference}
use Rattle.mm_value.specs.declared.col_type.ColType.{ColType}
use Rattle.mm_value.specs.declared.col_type.ColType.TheVariants as type

-- The column is the key.
abbrev pub is_key_role : Role → Bool
is_key_role Key = true
is_key_role Plain = false
is_key_role (Reference table on_delete) = false

abbrev pub is_key : Column → Bool
is_key column = is_key_role column.role

-- The number of columns that are the key.
abbrev pub key_count : List Column → ℕ
key_count columns = count_by is_key columns

-- The position of the key column.
abbrev pub key_place : List Column → ℕ
key_place columns = position_or_len is_key columns

-- Two columns have the same name.
abbrev pub has_duplicate_names : List Column → Bool
has_duplicate_names [] = false
has_duplicate_names (c ∷ cs) = list_any (λ d. same_name c.name d.name) cs || has_duplicate_names cs

-- The column with a name.
abbrev pub column_named : List ℕ → List Column → Option Column
column_named name columns = find (λ column. same_name name column.name) columns

-- The position of the column with a name.
abbrev pub column_place : List ℕ → List Column → Option ℕ
column_place name columns = position (λ column. same_name name column.name) columns

-- Two types are equal.
abbrev pub same_type : ColType → ColType → Bool
same_type type.Int type.Int = true
same_type type.Text type.Text = true
same_type type.Int type.Text = false
same_type type.Text type.Int = false

-- The key column has another type.
abbrev pub differs_from_key : ColType → List Column → Bool
differs_from_key type columns = option_map_or (λ key. not (same_type key.col_type type)) (find is_key columns) false

-- The table that a column of this role refers to, or None.
abbrev pub target_of_role : Role → Option (List ℕ)
target_of_role Key = None
target_of_role Plain = None
target_of_role (Reference table on_delete) = Some table

abbrev pub target_of : Column → Option (List ℕ)
target_of column = target_of_role column.role

-- The column refers to the table with a name.
abbrev pub refers_to : List ℕ → Column → Bool
refers_to name column = option_map_or (same_name name) (target_of column) false

-- The rows that refer to a row are deleted with it.
abbrev pub is_cascade : OnDelete → Bool
is_cascade Restrict = false
is_cascade Cascade = true

-- A row is deleted with the row that it refers to by a column of this role.
abbrev pub cascades_role : Role → Bool
cascades_role Key = false
cascades_role Plain = false
cascades_role (Reference table on_delete) = is_cascade on_delete

abbrev pub cascades : Column → Bool
cascades column = cascades_role column.role

-- The table that a column refers to, if the reference cascades.
abbrev pub cascading_target : Column → Option (List ℕ)
cascading_target column = if cascades column then target_of column else None
