-- The columns of the rows that a command returns.
use Rattle.std.specs.Prelude.{◌≡◌, ℕ, List, [], Option, Ok, filter_map, slice_get}
use Rattle.std.specs.Option.{option_and_then, option_map_or}
use Rattle.mm_schema.specs.Columns.{column_named}
use Rattle.mm_schema.specs.Indexes.{index_named}
use Rattle.mm_schema.specs.Schema.{Schema, columns_named}
use Rattle.mm_schema.specs.declared.column.Column.{Column}
use Rattle.mm_schema.specs.declared.index.IndexDef.{IndexDef}
use Rattle.mm_schema.specs.declared.table.Table.{Table}
use Rattle.mm_query.specs.Resolving.{table_of}
use Rattle.mm_query.specs.Standing.{query_named}
use Rattle.mm_query.specs.State.{State}
use Rattle.mm_query.specs.declared.bound_query.BoundQuery.{BoundQuery}
use Rattle.mm_query.specs.declared.bound_query.FieldPlace.{FieldPlace}
use Rattle.mm_query.specs.declared.command.Command.{Command}
use Rattle.mm_query.specs.declared.command.Command.TheVariants.{Scan, ScanIndex, Select, Show}
use Rattle.mm_query.specs.declared.query.FieldName.{FieldName}
use Rattle.mm_query.specs.declared.query.FromItem.{FromItem}
use Rattle.mm_query.specs.declared.query.Query.{Query}
use Rattle.mm_lang.specs.Templates.{template_of}

-- The column that a field names, if its alias and the column exist.
abbrev pub column_of_field : Schema → List FromItem → FieldName (List ℕ) → Option Column
column_of_field schema from field = option_and_then (λ (table : Table). column_named field.column table.definition.columns) (table_of schema from field.alias)

-- The column at a place, if its table and the column exist.
abbrev pub column_at_place : Schema → List FromItem → FieldPlace → Option Column
column_at_place schema from place =
    option_and_then (λ (item : FromItem). slice_get (columns_named item.table schema) place.column) (slice_get from place.place)

-- The columns of a query's result, from left to right.
abbrev pub query_columns : Schema → Query → List Column
query_columns schema query = filter_map (column_of_field schema query.from) query.fields

-- The columns of a bound query's result, from left to right.
abbrev pub bound_columns : Schema → BoundQuery → List Column
bound_columns schema query = filter_map (column_at_place schema query.from) query.fields

-- The columns of the rows that a command returns, from left to right: none for a command that returns no rows.
abbrev pub columns_of : Command → State → List Column
columns_of (Scan table) state = columns_named table state.schema
columns_of (ScanIndex index) state =
    option_map_or (λ (found : IndexDef). columns_named found.table state.schema) (index_named index state.schema) []
columns_of (Select query) state = query_columns state.schema query
columns_of (Show name) state = option_map_or (bound_columns state.schema) (query_named name state.schema.standing state.queries) []
columns_of command state = []

-- These are the columns of the rows that a line, perhaps with holes, returns.
abbrev pub AreColumnsOf : List ℕ → State → List Column → Type 0
AreColumnsOf line state columns = (command : Command) × (template_of line ≡ Ok command) × (columns ≡ columns_of command state)
