-- The type of a value.
use Rattle.mm_value.specs.declared.col_type.ColType.{ColType}
use Rattle.mm_value.specs.declared.col_type.ColType.TheVariants as type
use Rattle.mm_value.specs.declared.values.Value.{Value}
use Rattle.mm_value.specs.declared.values.Value.TheVariants as value

-- The type of the columns that may store a value.
abbrev pub type_of : Value → ColType
type_of (value.Int z) = type.Int
type_of (value.Text text) = type.Text
