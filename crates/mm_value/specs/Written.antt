-- The text of values and rows.
use Rattle.std.specs.Prelude.{ℕ, List, [], ◌∷◌, ◌++◌}
use Rattle.std.specs.Fmt.{signed_decimal}
use Rattle.mm_value.specs.declared.values.Value.{Value}
use Rattle.mm_value.specs.declared.values.Value.TheVariants.{Int, Text}
use Rattle.mm_value.specs.Literal.{quoted}

-- A whole number in decimal without leading zeros, a text in quotes with each quote doubled.
abbrev pub value_text : Value → List ℕ
value_text (Int z) = signed_decimal z
value_text (Text text) = quoted text

-- The values, separated by a comma and a space.
abbrev pub values_text : List Value → List ℕ
values_text [] = []
values_text (v ∷ []) = value_text v
values_text (v ∷ w ∷ vs) = value_text v ++ 44 ∷ 32 ∷ values_text (w ∷ vs)

-- A row in parentheses.
abbrev pub row_text : List Value → List ℕ
row_text values = 40 ∷ values_text values ++ 41 ∷ []
