-- The order of values and of rows.
use Rattle.std.specs.Prelude.{List}
use Rattle.std.specs.Ordering.{nat_cmp, int_cmp}
use Rattle.std.specs.Cmp.Lexicographic.{slice_cmp}
use Rattle.std.specs.declared.cmp.Ordering.{Ordering}
use Rattle.std.specs.declared.cmp.Ordering.TheVariants.{Less, Greater}
use Rattle.mm_value.specs.declared.values.Value.{Value}
use Rattle.mm_value.specs.declared.values.Value.TheVariants.{Int, Text}

-- Value order: whole numbers by value, texts by their bytes, whole numbers before texts.
abbrev pub value_cmp : Value → Value → Ordering
value_cmp (Int a) (Int b) = int_cmp a b
value_cmp (Int a) (Text b) = Less
value_cmp (Text a) (Int b) = Greater
value_cmp (Text a) (Text b) = slice_cmp nat_cmp a b

-- Row order: lexicographic, by the values from left to right.
abbrev pub row_cmp : List Value → List Value → Ordering
row_cmp = slice_cmp value_cmp
