-- Equality of values and rows, and the input of hashers.
use Rattle.std.specs.Prelude.{ℕ, Bool, List, [], ◌∷◌}
use Rattle.std.specs.Hash.{HashWrites, i64, slice}
use Rattle.std.specs.Ordering.{is_eq}
use Rattle.mm_value.specs.Order.{value_cmp, row_cmp}
use Rattle.mm_value.specs.declared.values.Value.{Value}
use Rattle.mm_value.specs.declared.values.Value.TheVariants.{Int, Text}

-- Two values are equal: they tie in the value order.
abbrev pub same_value : Value → Value → Bool
same_value a b = is_eq (value_cmp a b)

-- Two rows are equal: they tie in the row order.
abbrev pub same_row : List Value → List Value → Bool
same_row a b = is_eq (row_cmp a b)

-- A text is hashed as its bytes, in one piece.
abbrev pub text_input : List ℕ → HashWrites
text_input bytes = bytes ∷ []

-- A whole number is hashed as its 8 bytes, a text as its bytes.
abbrev pub value_input : Value → HashWrites
value_input (Int z) = i64 z
value_input (Text bytes) = text_input bytes

-- A row is hashed as its length and its values.
abbrev pub row_input : List Value → HashWrites
row_input = slice value_input
