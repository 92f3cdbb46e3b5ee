-- The truth of atoms (the selection formulas of the relational algebra), and the values of assignments.
use Rattle.std.specs.Prelude.{ℕ, ◌+◌, ◌<◌, ◌==◌, ℤ, pos, negsuc, ◌+ℤ◌, Bool, true, false, ◌||◌, List, [], ◌∷◌, Option, Some, None, find, slice_index_or}
use Rattle.std.specs.List.{list_any}
use Rattle.std.specs.Option.{option_map, option_map_or, unwrap_or}
use Rattle.std.specs.Ordering.{int_cmp, is_eq, is_ge, is_gt, is_le, is_lt}
use Rattle.std.specs.declared.cmp.Ordering.{Ordering}
use Rattle.mm_value.specs.Order.{value_cmp}
use Rattle.mm_value.specs.declared.values.Value.{Value}
use Rattle.mm_value.specs.declared.values.Value.TheVariants.{Int, Text}
use Rattle.mm_value.specs.declared.refusal.Refusal.TheVariants.{ArithmeticOutOfRange}
use Rattle.mm_schema.specs.Refused.{Condition}
use Rattle.mm_query.specs.declared.atom.Assignment.{Assignment}
use Rattle.mm_query.specs.declared.atom.Atom.{Atom}
use Rattle.mm_query.specs.declared.atom.Comparison.{Comparison}
use Rattle.mm_query.specs.declared.atom.Comparison.TheVariants.{Equal, Less, LessOrEqual, Greater, GreaterOrEqual}
use Rattle.mm_query.specs.declared.atom.Operand.{Operand}
use Rattle.mm_query.specs.declared.atom.Operand.TheVariants.{Literal, Column, Shifted}

-- The comparison accepts the order of two values.
abbrev pub stands : Comparison → Ordering → Bool
stands Equal ordering = is_eq ordering
stands Less ordering = is_lt ordering
stands LessOrEqual ordering = is_le ordering
stands Greater ordering = is_gt ordering
stands GreaterOrEqual ordering = is_ge ordering

-- The sum of a whole number and another one, without bound. A text is unchanged.
abbrev pub shifted : ℤ → Value → Value
shifted by (Int number) = Int (number +ℤ by)
shifted by (Text text) = Text text

-- The value of an operand, by the values of its columns.
abbrev pub operand_of : {F : Type 0} → (F → Option Value) → Operand F → Option Value
operand_of read (Literal value) = Some value
operand_of read (Column column) = read column
operand_of read (Shifted column by) = option_map (shifted by) (read column)

-- The comparison holds of two values, or one of them is missing.
abbrev pub holds_of : Comparison → Option Value → Option Value → Bool
holds_of comparison (Some a) (Some b) = stands comparison (value_cmp a b)
holds_of comparison (Some a) None = true
holds_of comparison None b = true

-- The atom is not false of the columns' values.
abbrev pub holds : {F : Type 0} → (F → Option Value) → Atom F → Bool
holds read atom = holds_of atom.comparison (read atom.left) (operand_of read atom.right)

-- The value of a row in a column, or 0 if the row has no such column.
abbrev pub value_in : ℕ → List Value → Value
value_in column row = slice_index_or row column (Int (pos 0))

-- Both sides read only the first `width` columns of a row.
abbrev pub ReadsWithin : ℕ → ℕ → Operand ℕ → Type 0
ReadsWithin width left (Literal value) = left < width
ReadsWithin width left (Column column) = (left < width) × (column < width)
ReadsWithin width left (Shifted column by) = (left < width) × (column < width)

-- The value of a row in a column, which it has.
abbrev pub reads : List Value → ℕ → Option Value
reads row column = Some (value_in column row)

-- The value of an operand in a row.
abbrev pub value_for : List Value → Operand ℕ → Value
value_for row operand = unwrap_or (operand_of (reads row) operand) (Int (pos 0))

-- The operand reads only the first `width` columns of a row.
abbrev pub IsWithin : ℕ → Operand ℕ → Type 0
IsWithin width (Literal value) = Unit {0}
IsWithin width (Column column) = column < width
IsWithin width (Shifted column by) = column < width

-- The new value of a column: the assigned value, computed from the old row alone, or else the old value.
abbrev pub updated_value : List (Assignment ℕ) → List Value → ℕ → Value → Value
updated_value assignments row column old =
    option_map_or (λ (a : Assignment ℕ). value_for row a.source) (find (λ (a : Assignment ℕ). a.column == column) assignments) old

-- The new values of the columns from a given one on.
abbrev pub updated_from : List (Assignment ℕ) → List Value → ℕ → List Value → List Value
updated_from assignments row column [] = []
updated_from assignments row column (old ∷ olds) = updated_value assignments row column old ∷ updated_from assignments row (column + 1) olds

-- The row after an UPDATE.
abbrev pub updated_row : List (Assignment ℕ) → List Value → List Value
updated_row assignments row = updated_from assignments row 0 row

-- The whole number does not fit into 64 bits.
abbrev pub is_past_range : Value → Bool
is_past_range (Int number) = is_lt (int_cmp number (negsuc 9223372036854775807)) || is_gt (int_cmp number (pos 9223372036854775807))
is_past_range (Text text) = false

-- The conditions on the range of values.
abbrev pub range_conditions : List Value → List Condition
range_conditions values = record { holds = list_any is_past_range values; refusal = ArithmeticOutOfRange } ∷ []
