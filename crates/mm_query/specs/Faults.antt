-- Errors of a command, recorded name by name.
use Rattle.std.specs.Prelude.{Bool, ◌||◌, List, [], ◌∷◌}
use Rattle.mm_schema.specs.Refused.{Condition}
use Rattle.mm_value.specs.declared.refusal.Refusal.{Refusal}
use Rattle.mm_value.specs.declared.refusal.Refusal.TheVariants.{NoSuchAlias, NoSuchColumn, TooMany, TypeMismatch}
use Rattle.mm_query.specs.declared.faults.Faults.{Faults}

-- The errors after recording a missing column, a missing alias, and a type mismatch.
abbrev pub noted : Bool → Bool → Bool → Faults → Faults
noted column alias mismatch faults =
    record faults { column = faults.column || column; alias = faults.alias || alias; mismatch = faults.mismatch || mismatch }

-- The conditions that refuse a command for its errors, in the order of refusals. A duplicate is refused as `taken`.
abbrev pub fault_conditions : Refusal → Faults → List Condition
fault_conditions taken faults =
    record { holds = faults.column; refusal = NoSuchColumn }
    ∷ record { holds = faults.duplicate; refusal = taken }
    ∷ record { holds = faults.alias; refusal = NoSuchAlias }
    ∷ record { holds = faults.mismatch; refusal = TypeMismatch }
    ∷ record { holds = faults.too_many; refusal = TooMany }
    ∷ []
