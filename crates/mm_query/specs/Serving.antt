-- The indexes that a plan may use for a field, and the properties of the field's column.
use Rattle.std.specs.Prelude.{ℕ, Bool, true, false, ◌&&◌, if◌then◌else◌, List, Option, Some, find}
use Rattle.std.specs.Option.{option_and_then, option_map, option_map_or}
use Rattle.mm_schema.specs.Columns.{column_named, is_key, refers_to}
use Rattle.mm_schema.specs.Name.{same_name}
use Rattle.mm_schema.specs.Schema.{Schema}
use Rattle.mm_schema.specs.declared.column.Column.{Column}
use Rattle.mm_schema.specs.declared.index.IndexDef.{IndexDef}
use Rattle.mm_schema.specs.declared.index.IndexId.{IndexId}
use Rattle.mm_schema.specs.declared.index.IndexId.TheVariants as id
use Rattle.mm_schema.specs.declared.index.IndexKind.{IndexKind}
use Rattle.mm_schema.specs.declared.index.IndexKind.TheVariants.{Tree, Hash}
use Rattle.mm_query.specs.Resolving.{table_of}
use Rattle.mm_query.specs.Fields.{FieldName}
use Rattle.mm_query.specs.declared.query.FromItem.{FromItem}

-- The column of a field, if its alias, its table and its column exist.
abbrev pub field_column : Schema → List FromItem → FieldName → Option Column
field_column schema from field = option_and_then (λ table. column_named field.column table.definition.columns) (table_of schema from field.alias)

-- The field is the key of its table.
abbrev pub is_key_field : Schema → List FromItem → FieldName → Bool
is_key_field schema from field = option_map_or is_key (field_column schema from field) false

-- The field refers to the table with a name.
abbrev pub refers_to_table : Schema → List FromItem → List ℕ → FieldName → Bool
refers_to_table schema from table field = option_map_or (refers_to table) (field_column schema from field) false

-- Two kinds of indexes are equal.
abbrev pub same_kind : IndexKind → IndexKind → Bool
same_kind Tree Tree = true
same_kind Hash Hash = true
same_kind Tree Hash = false
same_kind Hash Tree = false

-- The index has the kind, and is on the column with the name.
abbrev pub serves : IndexKind → List ℕ → IndexDef → Bool
serves kind column index = same_kind kind index.kind && same_name column index.column

-- The oldest index of a kind on a field. The tree on the key does not count.
abbrev pub created_index : Schema → List FromItem → IndexKind → FieldName → Option (List ℕ)
created_index schema from kind field =
    option_and_then (λ table. option_map (λ (index : IndexDef). index.name) (find (serves kind field.column) table.indexes)) (table_of schema from field.alias)

-- The oldest HASH index on a field.
abbrev pub hash_on : Schema → List FromItem → FieldName → Option (List ℕ)
hash_on schema from field = created_index schema from Hash field

-- The tree on a field: for the key, the tree that each table has, and otherwise the oldest TREE index.
abbrev pub tree_on : Schema → List FromItem → FieldName → Option IndexId
tree_on schema from field = if is_key_field schema from field then Some id.Key else option_map id.Named (created_index schema from Tree field)
