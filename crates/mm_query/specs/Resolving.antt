-- The resolution of a query's names, and the refusals that depend on the catalog alone.
use Rattle.std.specs.Prelude.{◌≡◌, ℕ, ◌-◌, ◌<◌, ◌==◌, Bool, false, ◌||◌, All, List, [], ◌∷◌, ◌++◌, Option, Some, None, find, is_none, length, map, nat_lt}
use Rattle.std.specs.Prelude.{position, slice_get}
use Rattle.std.specs.List.{list_any}
use Rattle.std.specs.Option.{option_and_then, option_map_or, unwrap_or}
use Rattle.mm_schema.specs.Name.{same_name}
use Rattle.mm_schema.specs.Refused.{Condition}
use Rattle.mm_schema.specs.Schema.{Schema, columns_named, lacks_table, table_named, table_place}
use Rattle.mm_schema.specs.declared.table.Table.{Table}
use Rattle.mm_value.specs.declared.col_type.ColType.{ColType}
use Rattle.mm_value.specs.declared.refusal.Refusal.TheVariants.{AliasTaken, NoSuchAlias, NoSuchColumn, NoSuchTable, TooMany, TypeMismatch}
use Rattle.mm_value.specs.declared.values.Value.{Value}
use Rattle.mm_query.specs.Placing.{lacks_column, mapped_atom, mismatches, placed, type_named}
use Rattle.mm_query.specs.Queries.{bag, eval, shown, size_conditions}
use Rattle.mm_query.specs.State.{State, rows_in}
use Rattle.mm_query.specs.declared.atom.Atom.{Atom}
use Rattle.mm_query.specs.declared.atom.Operand.{Operand}
use Rattle.mm_query.specs.declared.atom.Operand.TheVariants.{Literal, Column, Shifted}
use Rattle.mm_query.specs.declared.bound_query.BoundQuery.{BoundQuery}
use Rattle.mm_query.specs.declared.bound_query.FieldPlace.{FieldPlace}
use Rattle.mm_query.specs.Fields.{FieldName}
use Rattle.mm_query.specs.declared.query.FromItem.{FromItem}
use Rattle.mm_query.specs.declared.query.Query.{Query}

-- ---- tables

-- The positions of the tables of FROM in the catalog's order of creation, or 0 for a table that does not exist.
abbrev pub places_in : Schema → List FromItem → List ℕ
places_in schema from = map (λ (item : FromItem). unwrap_or (table_place item.table schema) 0) from

-- ---- fields

-- The position of an alias in FROM: the first one if it occurs twice.
abbrev pub alias_place : List FromItem → List ℕ → Option ℕ
alias_place from alias = position (λ item. same_name alias item.alias) from

-- The table of an alias, if both exist.
abbrev pub table_of : Schema → List FromItem → List ℕ → Option Table
table_of schema from alias = option_and_then (λ item. table_named item.table schema) (find (λ item. same_name alias item.alias) from)

-- The type of a field, if its alias, its table and its column exist.
abbrev pub field_type : Schema → List FromItem → FieldName → Option ColType
field_type schema from field = option_and_then (λ table. type_named table.definition.columns field.column) (table_of schema from field.alias)

-- FROM does not contain the field's alias.
abbrev pub lacks_alias : List FromItem → FieldName → Bool
lacks_alias from field = is_none (alias_place from field.alias)

-- The field's table exists, but has no such column.
abbrev pub field_lacks_column : Schema → List FromItem → FieldName → Bool
field_lacks_column schema from field = option_map_or (λ table. lacks_column table.definition.columns field.column) (table_of schema from field.alias) false

-- ---- positions of names

-- The positions of a field's table and column, each 0 if it does not exist.
abbrev pub placed_field : Schema → List FromItem → FieldName → FieldPlace
placed_field schema from field = record {
  place = unwrap_or (alias_place from field.alias) 0;
  column = option_map_or (λ table. placed table.definition.columns field.column) (table_of schema from field.alias) 0;
}

-- A query with positions of its fields; positions of ORDER are counted from 0.
abbrev pub placed_query : Schema → Query → BoundQuery
placed_query schema query = record {
  distinct = query.distinct;
  fields = map (placed_field schema query.from) query.fields;
  from = query.from;
  atoms = map (mapped_atom (placed_field schema query.from)) query.atoms;
  order = map (λ position. position - 1) query.order;
}

-- ---- conditions

-- The column of an operand, or `None` for a literal.
abbrev pub column_of : {F : Type 0} → Operand F → Option F
column_of (Literal value) = None
column_of (Column column) = Some column
column_of (Shifted column by) = Some column

-- A field of the atom passes the test.
abbrev pub some_side : (FieldName → Bool) → Atom FieldName → Bool
some_side test atom = test atom.left || option_map_or test (column_of atom.right) false

-- A field of the query passes the test.
abbrev pub some_field : (FieldName → Bool) → Query → Bool
some_field test query = list_any test query.fields || list_any (some_side test) query.atoms

-- An alias occurs twice.
abbrev pub has_duplicate_aliases : List FromItem → Bool
has_duplicate_aliases [] = false
has_duplicate_aliases (item ∷ items) = list_any (λ other. same_name item.alias other.alias) items || has_duplicate_aliases items

-- The position is 0 or exceeds the number of fields.
abbrev pub lacks_position : List FieldName → ℕ → Bool
lacks_position fields position = (position == 0) || nat_lt (length fields) position

-- More than 4 tables, or more than 16 fields, atoms or positions of ORDER.
abbrev pub exceeds_query_limits : Query → Bool
exceeds_query_limits query =
    nat_lt 4 (length query.from) || nat_lt 16 (length query.fields) || nat_lt 16 (length query.atoms) || nat_lt 16 (length query.order)

-- The conditions on missing tables, columns and positions, in the order of refusals.
abbrev pub missing_conditions : Query → Schema → List Condition
missing_conditions query schema =
    record { holds = list_any (λ (item : FromItem). lacks_table item.table schema) query.from; refusal = NoSuchTable }
    ∷ record {
      holds = some_field (field_lacks_column schema query.from) query || list_any (lacks_position query.fields) query.order;
      refusal = NoSuchColumn;
    }
    ∷ []

-- The conditions on aliases and types, in the order of refusals.
abbrev pub ill_formed_conditions : Query → Schema → List Condition
ill_formed_conditions query schema =
    record { holds = has_duplicate_aliases query.from; refusal = AliasTaken }
    ∷ record { holds = some_field (lacks_alias query.from) query; refusal = NoSuchAlias }
    ∷ record {
      holds = list_any (λ (a : Atom FieldName). mismatches (field_type schema query.from) a.left a.right) query.atoms;
      refusal = TypeMismatch;
    }
    ∷ []

-- The conditions that refuse a query by the catalog alone, in the order of refusals.
abbrev pub query_conditions : Query → Schema → List Condition
query_conditions query schema =
    missing_conditions query schema
    ++ ill_formed_conditions query schema
    ++ record { holds = exceeds_query_limits query; refusal = TooMany }
    ∷ []

-- ---- the fields of a query that is not refused

-- The number of columns of the table at a position of FROM.
abbrev pub width_at : Schema → List FromItem → ℕ → ℕ
width_at schema from place = option_map_or (λ (item : FromItem). length (columns_named item.table schema)) (slice_get from place) 0

-- The field is a column of its table.
abbrev pub IsFieldWithin : Schema → List FromItem → FieldPlace → Type 0
IsFieldWithin schema from field = field.column < width_at schema from field.place

-- All fields of the atom are columns of their tables.
abbrev pub IsAtomWithin : Schema → List FromItem → Atom FieldPlace → Type 0
IsAtomWithin schema from atom = IsFieldWithin schema from atom.left
    × ((field : FieldPlace) → column_of atom.right ≡ Some field → IsFieldWithin schema from field)

-- All tables, fields and positions of the query exist.
pub record IsQueryWithin (schema : Schema) (query : BoundQuery) : Type 0 where
  pub tables : list_any (λ (item : FromItem). lacks_table item.table schema) query.from ≡ false
  pub fields : All (IsFieldWithin schema query.from) query.fields
  pub atoms : All (IsAtomWithin schema query.from) query.atoms
  pub order : All (λ column. column < length query.fields) query.order

-- ---- queries over a state

-- The projected rows of the matching combinations in a state.
abbrev pub bag_in : State → Query → List (List Value)
bag_in state query = bag (placed_query state.schema query) (rows_in state)

-- The conditions that refuse a SELECT, in the order of refusals.
abbrev pub select_conditions : Query → State → List Condition
select_conditions query state = query_conditions query state.schema ++ size_conditions (bag_in state query)

-- The rows that a bound query returns in a state, in order.
abbrev pub answer_in : State → BoundQuery → List (List Value)
answer_in state query = shown query (eval query (rows_in state))

-- The rows that a SELECT returns, in order.
abbrev pub selected : Query → State → List (List Value)
selected query state = answer_in state (placed_query state.schema query)
