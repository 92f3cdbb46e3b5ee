-- References to values.
use Rattle.mm_value.specs.declared.value_ref.ValueRef.{ValueRef}
use Rattle.mm_value.specs.declared.value_ref.ValueRef.TheVariants as view
use Rattle.mm_value.specs.declared.values.Value.{Value}
use Rattle.mm_value.specs.declared.values.Value.TheVariants.{Int, Text}

-- The referenced value.
abbrev pub value_of : ValueRef → Value
value_of (view.Int z) = Int z
value_of (view.Text text) = Text text.now
