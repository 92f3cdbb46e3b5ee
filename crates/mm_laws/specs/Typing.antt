-- Rows that have the types of their columns (the domains of Codd's relational model), and queries that add numbers only to integers.
use Rattle.std.specs.Prelude.{◌≡◌, All, List, [], ◌∷◌, Option, Some, IfSome, slice_get}
use Rattle.std.specs.Option.{option_and_then, option_map}
use Rattle.mm_value.specs.Types.{type_of}
use Rattle.mm_value.specs.declared.col_type.ColType.{ColType}
use Rattle.mm_value.specs.declared.col_type.ColType.TheVariants as type
use Rattle.mm_value.specs.declared.values.Value.{Value}
use Rattle.mm_schema.specs.Instance.{Instance}
use Rattle.mm_schema.specs.Schema.{Schema, columns_named}
use Rattle.mm_schema.specs.declared.column.Column.{Column}
use Rattle.mm_schema.specs.declared.table.Table.{Table}
use Rattle.mm_query.specs.State.{AreSavedRows, State}
use Rattle.mm_query.specs.declared.atom.Atom.{Atom}
use Rattle.mm_query.specs.declared.atom.Operand.{Operand}
use Rattle.mm_query.specs.declared.atom.Operand.TheVariants as operand
use Rattle.mm_query.specs.declared.bound_query.BoundQuery.{BoundQuery}
use Rattle.mm_query.specs.declared.bound_query.FieldPlace.{FieldPlace}
use Rattle.mm_query.specs.declared.query.FromItem.{FromItem}

-- ---- rows

-- A row has for each column a value of the column's type, and no more values.
abbrev pub HasTypes : List Column → List Value → Type 0
HasTypes [] [] = Unit {0}
HasTypes (column ∷ columns) (value ∷ values) = (type_of value ≡ column.col_type) × HasTypes columns values
HasTypes [] (value ∷ values) = ⊥
HasTypes (column ∷ columns) [] = ⊥

-- Each table has a list of rows, and there are no other lists. Each row has the types of the table's columns.
abbrev pub AreTyped : List Table → Instance → Type 0
AreTyped [] [] = Unit {0}
AreTyped (table ∷ tables) (rows ∷ others) = All (HasTypes table.definition.columns) rows × AreTyped tables others
AreTyped [] (rows ∷ others) = ⊥
AreTyped (table ∷ tables) [] = ⊥

-- ---- queries

-- The column of a field, if its place of FROM and the column exist.
abbrev pub column_at : Schema → List FromItem → FieldPlace → Option Column
column_at schema from field =
    option_and_then (λ (item : FromItem). slice_get (columns_named item.table schema) field.column) (slice_get from field.place)

-- The type of the column of a field, if there is such a column.
abbrev pub type_at : Schema → List FromItem → FieldPlace → Option ColType
type_at schema from field = option_map (λ (column : Column). column.col_type) (column_at schema from field)

-- An operand adds a number only to an integer column.
abbrev pub ShiftsNumber : Schema → List FromItem → Operand FieldPlace → Type 0
ShiftsNumber schema from (operand.Literal value) = Unit {0}
ShiftsNumber schema from (operand.Column field) = Unit {0}
ShiftsNumber schema from (operand.Shifted field by) = type_at schema from field ≡ Some type.Int

-- No atom of a query adds a number to a column other than an integer column.
abbrev pub ShiftsNumbers : Schema → BoundQuery → Type 0
ShiftsNumbers schema query = All (λ (atom : Atom FieldPlace). ShiftsNumber schema query.from atom.right) query.atoms

-- ---- the state

-- All rows have the types of their columns, also the saved ones, and the standing queries add numbers only to integer columns.
pub record IsTyped (state : State) : Type 0 where
  pub rows : AreTyped state.schema.tables state.rows
  pub saved : IfSome state.saved (AreSavedRows (AreTyped state.schema.tables))
  pub queries : All (ShiftsNumbers state.schema) state.queries
