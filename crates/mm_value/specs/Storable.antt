-- Limits that every value of the program satisfies.
use Rattle.std.specs.Prelude.{◌≤◌, All, FitsSigned, List, length}
use Rattle.std.specs.Int.{w64}
use Rattle.mm_value.specs.declared.values.Value.{Value}
use Rattle.mm_value.specs.declared.values.Value.TheVariants.{Int, Text}
use Rattle.mm_value.specs.Text.{IsText}

-- A whole number of 64 bits, or a text of at most 64 bytes without a line feed.
abbrev pub IsStorable : Value → Type 0
IsStorable (Int z) = FitsSigned w64 z
IsStorable (Text text) = IsText text

-- Each of the values is storable.
abbrev pub AreStorable : List Value → Type 0
AreStorable values = All IsStorable values

-- The value needs no allocation: a whole number, or a text of at most 16 bytes.
abbrev pub LiesInline : Value → Type 0
LiesInline (Int z) = Unit {0}
LiesInline (Text text) = length text ≤ 16
