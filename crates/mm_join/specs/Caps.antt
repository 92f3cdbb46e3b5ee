-- The maximum number of combinations of a join.
use Rattle.std.specs.Prelude.{ℕ, List, [], ◌∷◌, length, nat_lt}
use Rattle.mm_schema.specs.Refused.{Condition}
use Rattle.mm_value.specs.declared.refusal.Refusal.TheVariants.{ResultTooLarge}

-- The refusal of a list that is longer than the cap.
abbrev pub cap_conditions : {X : Type 0} → ℕ → List X → List Condition
cap_conditions cap found = record { holds = nat_lt cap (length found); refusal = ResultTooLarge } ∷ []
