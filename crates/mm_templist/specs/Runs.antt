-- Runs of referenced values.
use Rattle.std.specs.Prelude.{ℕ, List, [], ◌∷◌, drop, map, take}
use Rattle.mm_value.specs.Prefix.{order_prefix}
use Rattle.mm_value.specs.Views.{value_of}
use Rattle.mm_value.specs.declared.value_ref.ValueRef.{ValueRef}
use Rattle.mm_value.specs.declared.values.Value.{Value}

-- The referenced values.
abbrev pub referred : List ValueRef → List Value
referred refs = map value_of refs

-- The row of this many values from a position on.
abbrev pub run_from : ℕ → List ValueRef → ℕ → List Value
run_from width refs start = referred (take width (drop start refs))

-- The prefix of the first value of a sort key, and 0 if there is none.
abbrev pub leading_prefix : List Value → ℕ
leading_prefix [] = 0
leading_prefix (value ∷ values) = order_prefix value
