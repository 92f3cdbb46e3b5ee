-- The types of the values in a row.
use Rattle.std.specs.Prelude.{◌≡◌, List, map}
use Rattle.mm_value.specs.Types.{type_of}
use Rattle.mm_value.specs.declared.col_type.ColType.{ColType}
use Rattle.mm_value.specs.declared.values.Value.{Value}

-- The row has a value for each column, of the column's type.
abbrev pub HasTypes : List ColType → List Value → Type 0
HasTypes types row = map type_of row ≡ types
