-- The holes of a command.
use Rattle.std.specs.Prelude.{ℕ, zero, Bool, true, false, List, count_by, map, negsuc}
use Rattle.mm_value.specs.declared.values.Value.{Value}
use Rattle.mm_value.specs.declared.values.Value.TheVariants.{Int}
use Rattle.mm_query.specs.declared.command.Command.{Command}
use Rattle.mm_lang.specs.Reading.{literals_of}

-- For each literal of a command, in written order: whether it is a hole, and whether it reads as -1, as a hole after a minus does.
pub record HolePlaces : Type 0 where
  pub are_holes : List Bool
  pub are_minus_one : List Bool

-- The number of holes.
abbrev pub hole_count : List Bool → ℕ
hole_count holes = count_by (λ hole. hole) holes

-- The literal reads as -1.
abbrev pub is_minus_one : Value → Bool
is_minus_one (Int (negsuc zero)) = true
is_minus_one value = false

-- The holes of a command, given the flags of its literals.
abbrev pub hole_places : List Bool → Command → HolePlaces
hole_places holes command = record { are_holes = holes; are_minus_one = map is_minus_one (literals_of command) }
