-- Queries that add numbers only to integer columns, over rows that have their types.
use Rattle.std.proofs.Common.{◌≡◌, ℕ, false, List, [], Option, Some, None, slice_get, refl, ◌∙◌}
use Rattle.std.specs.List.{All}
use Rattle.std.specs.Option.{option_and_then, option_map, option_map_or}
use Rattle.std.proofs.lemmas.List.Elements.{All-weaker}
use Rattle.mm_schema.specs.Instance.{Instance, rows_named}
use Rattle.mm_schema.specs.Schema.{Schema, columns_named}
use Rattle.mm_schema.specs.declared.column.Column.{Column}
use Rattle.mm_schema.proofs.Duplicates.{Row}
use Rattle.mm_value.specs.Types.{type_of}
use Rattle.mm_value.specs.declared.col_type.ColType.TheVariants as type
use Rattle.mm_value.specs.declared.values.Value.{Value}
use Rattle.mm_value.specs.declared.values.Value.TheVariants.{Int, Text}
use Rattle.mm_query.specs.Atoms.{value_in}
use Rattle.mm_query.specs.declared.atom.Atom.{Atom}
use Rattle.mm_query.specs.declared.atom.Operand.{Operand}
use Rattle.mm_query.specs.declared.atom.Operand.TheVariants as operand
use Rattle.mm_query.specs.declared.bound_query.BoundQuery.{BoundQuery}
use Rattle.mm_query.specs.declared.bound_query.FieldPlace.{FieldPlace}
use Rattle.mm_query.specs.declared.query.FromItem.{FromItem}
use Rattle.mm_query.specs.Additions.{AddsToNumber, AddsToNumbers, is_text}
use Rattle.mm_laws.specs.Typing.{AreTyped, HasTypes, ShiftsNumber, ShiftsNumbers}
use Rattle.mm_laws.proofs.TypedRows.{value_typed}
use Rattle.mm_laws.proofs.TypedTables.{named_typed}

-- a value of the integer type is not a text
not_text : (v : Value) → type_of v ≡ type.Int → is_text (Some v) ≡ false
not_text (Int number) is = refl
not_text (Text text) is = cc

module _ (schema : Schema) (rows : Instance) (typed : AreTyped schema.tables rows) where
  -- An integer column has no text in the rows of its table.
  in_table : (name : List ℕ) (column : ℕ) (found : Option Column) → slice_get (columns_named name schema) column ≡ found
      → option_map (λ (c : Column). c.col_type) found ≡ Some type.Int
      → All (λ (row : Row). is_text (Some (value_in column row)) ≡ false) (rows_named name schema.tables rows)
  in_table name column None there whole = cc
  in_table name column (Some c) there whole =
      All-weaker (HasTypes (columns_named name schema)) _
      (λ row has. not_text (value_in column row) (let whole' : c.col_type ≡ type.Int = cc in value_typed (columns_named name schema) row column c has there
      ∙ whole'))
      (rows_named name schema.tables rows) (named_typed name schema.tables rows typed)

  -- the rows of the table of an item
  abbrev rows_of : Option FromItem → List Row
  rows_of item = option_map_or (λ (item : FromItem). rows_named item.table schema.tables rows) item []

  in_place : (column : ℕ) (item : Option FromItem)
      → option_map (λ (c : Column). c.col_type) (option_and_then (λ (item : FromItem). slice_get (columns_named item.table schema) column) item) ≡ Some type.Int
      → All (λ (row : Row). is_text (Some (value_in column row)) ≡ false) (rows_of item)
  in_place column None whole = cc
  in_place column (Some item) whole = in_table item.table column (slice_get (columns_named item.table schema) column) refl whole

  adds_to_number : (from : List FromItem) (o : Operand FieldPlace) → ShiftsNumber schema from o → AddsToNumber (λ place. rows_of (slice_get from place)) o
  adds_to_number from (operand.Literal value) shifts = tt
  adds_to_number from (operand.Column field) shifts = tt
  adds_to_number from (operand.Shifted field by) shifts = in_place field.column (slice_get from field.place) shifts

  -- So no atom of such a query adds a number to a text.
  pub adds_to_numbers : (query : BoundQuery) → ShiftsNumbers schema query → AddsToNumbers query (λ place. rows_of (slice_get query.from place))
  adds_to_numbers query shifts =
      All-weaker (λ (atom : Atom FieldPlace). ShiftsNumber schema query.from atom.right) _ (λ atom. adds_to_number query.from atom.right) query.atoms shifts
