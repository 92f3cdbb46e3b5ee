-- The text of a query, in as few bytes as a line can spell it.
use Rattle.std.specs.Prelude.{ℕ, ◌+◌, Bool, true, false, List, [], ◌∷◌, ◌++◌, Option, ℤ, codes, map, pos, negsuc, slice_get, suc}
use Rattle.std.specs.Fmt.{decimal}
use Rattle.std.specs.Option.{option_and_then, option_map_or}
use Rattle.mm_value.specs.Written.{value_text}
use Rattle.mm_value.specs.declared.values.Value.TheVariants as value
use Rattle.mm_schema.specs.Schema.{Schema, columns_named}
use Rattle.mm_schema.specs.declared.column.Column.{Column}
use Rattle.mm_query.specs.Fields.{FieldName}
use Rattle.mm_query.specs.Placing.{mapped_atom}
use Rattle.mm_query.specs.declared.atom.Atom.{Atom}
use Rattle.mm_query.specs.declared.atom.Operand.{Operand}
use Rattle.mm_query.specs.declared.atom.Operand.TheVariants as operand
use Rattle.mm_query.specs.declared.bound_query.BoundQuery.{BoundQuery}
use Rattle.mm_query.specs.declared.bound_query.FieldPlace.{FieldPlace}
use Rattle.mm_query.specs.declared.query.FromItem.{FromItem}
use Rattle.mm_query.specs.declared.query.Query.{Query}
use Rattle.mm_lang.specs.Spelling.{comparison_symbol}
use Rattle.mm_lang.specs.Words.{symbol_text}

-- ---- names for positions

-- The column of a field, if its table and the column exist.
abbrev pub column_at : Schema → List FromItem → FieldPlace → Option Column
column_at schema from field =
    option_and_then (λ (item : FromItem). slice_get (columns_named item.table schema) field.column) (slice_get from field.place)

-- The names of a field: the alias of its table, and the name of its column.
abbrev pub named_field : Schema → List FromItem → FieldPlace → FieldName
named_field schema from field = record {
  alias = option_map_or (λ (item : FromItem). item.alias) (slice_get from field.place) [];
  column = option_map_or (λ (column : Column). column.name) (column_at schema from field) [];
}

-- A bound query with names in place of the positions of its fields; positions of ORDER are counted from 1.
abbrev pub named_query : Schema → BoundQuery → Query
named_query schema query = record {
  distinct = query.distinct;
  fields = map (named_field schema query.from) query.fields;
  from = query.from;
  atoms = map (mapped_atom (named_field schema query.from)) query.atoms;
  order = map (λ column. column + 1) query.order;
}

-- ---- texts

-- The texts of items, in order, separated by a separator.
abbrev pub separated : {X : Type 0} → List ℕ → (X → List ℕ) → List X → List ℕ
separated separator text [] = []
separated separator text (x ∷ []) = text x
separated separator text (x ∷ y ∷ xs) = text x ++ (separator ++ separated separator text (y ∷ xs))

-- A field of a query: alias.column
abbrev pub field_text : FieldName → List ℕ
field_text field = field.alias ++ 46 ∷ field.column

-- The number added to a field: + digits, or - digits for a negative one
abbrev pub shift_text : ℤ → List ℕ
shift_text (pos n) = 43 ∷ decimal n
shift_text (negsuc n) = 45 ∷ decimal (suc n)

-- The right side of a test: a literal, or a field, or a field plus or minus a number
abbrev pub operand_text : Operand FieldName → List ℕ
operand_text (operand.Literal value) = value_text value
operand_text (operand.Column field) = field_text field
operand_text (operand.Shifted field by) = field_text field ++ shift_text by

-- A test: field op operand
abbrev pub test_text : Atom FieldName → List ℕ
test_text test = field_text test.left ++ (symbol_text (comparison_symbol test.comparison) ++ operand_text test.right)

-- The separator between an operand and a word after it: a space, but nothing after the quote that ends a text.
abbrev pub space_after : {F : Type 0} → Operand F → List ℕ
space_after (operand.Literal (value.Int z)) = codes " "
space_after (operand.Literal (value.Text text)) = []
space_after (operand.Column field) = codes " "
space_after (operand.Shifted field by) = codes " "

-- Tests, in order, separated by AND.
abbrev pub tests_text : List (Atom FieldName) → List ℕ
tests_text [] = []
tests_text (test ∷ []) = test_text test
tests_text (test ∷ other ∷ tests) = test_text test ++ (space_after test.right ++ (codes "AND " ++ tests_text (other ∷ tests)))

-- The tests of a query after a space, if it has any: WHERE test AND ..
abbrev pub where_text : List (Atom FieldName) → List ℕ
where_text [] = []
where_text (test ∷ tests) = codes " WHERE " ++ tests_text (test ∷ tests)

-- The separator between the tests of a query, or its tables if it has no tests, and a word after them.
abbrev pub space_after_tests : {F : Type 0} → List (Atom F) → List ℕ
space_after_tests [] = codes " "
space_after_tests (test ∷ []) = space_after test.right
space_after_tests (test ∷ other ∷ tests) = space_after_tests (other ∷ tests)

-- The positions of a query after its tests, if it has any: ORDER position, ..
abbrev pub order_text : {F : Type 0} → List (Atom F) → List ℕ → List ℕ
order_text tests [] = []
order_text tests (position ∷ positions) = space_after_tests tests ++ (codes "ORDER " ++ separated (codes ",") decimal (position ∷ positions))

-- A table of FROM: name alias
abbrev pub from_text : FromItem → List ℕ
from_text item = item.table ++ 32 ∷ item.alias

abbrev pub distinct_text : Bool → List ℕ
distinct_text true = codes "DISTINCT "
distinct_text false = []

-- A query, without its SELECT: [DISTINCT] field, .. FROM name alias, .. [WHERE test AND ..] [ORDER position, ..]
abbrev pub query_text : Query → List ℕ
query_text query =
    distinct_text query.distinct
    ++ (separated (codes ",") field_text query.fields
    ++ (codes " FROM " ++ (separated (codes ",") from_text query.from ++ (where_text query.atoms ++ order_text query.atoms query.order))))
