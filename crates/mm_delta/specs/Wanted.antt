-- The value that a row must have in a column.
use Rattle.mm_value.specs.declared.values.Value.{Value}
use Rattle.mm_value.specs.declared.values.Value.TheVariants.{Int}
use Rattle.mm_delta.specs.declared.wanted.Wanted.{Wanted}
use Rattle.mm_delta.specs.declared.wanted.Wanted.TheVariants as wanted

-- The wanted value: a sum as an integer, without bound.
abbrev pub value_wanted : Wanted → Value
value_wanted (wanted.Value value) = value
value_wanted (wanted.Sum number) = Int number
