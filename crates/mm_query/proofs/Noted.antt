-- Errors recorded for some names and then for others.
use Rattle.std.proofs.Common.{◌≡◌, Bool, true, false, ◌||◌, refl}
use Rattle.std.proofs.Math.Bool.{or_assoc}
use Rattle.mm_query.specs.Faults.{noted}
use Rattle.mm_query.specs.declared.faults.Faults.{Faults}

pub or_false : (a : Bool) → (a || false) ≡ a
or_false true = refl
or_false false = refl

or_true : (a : Bool) → (a || true) ≡ true
or_true true = refl
or_true false = refl

-- Without an error, nothing is recorded, ..
pub noted_none : (faults : Faults) → noted false false false faults ≡ faults
noted_none faults i =
    record faults { column = or_false faults.column i; alias = or_false faults.alias i; mismatch = or_false faults.mismatch i }

-- .. a missing column is recorded, ..
pub noted_column : (faults : Faults) → noted true false false faults ≡ record faults { column = true }
noted_column faults i =
    record faults { column = or_true faults.column i; alias = or_false faults.alias i; mismatch = or_false faults.mismatch i }

-- .. and so is a missing alias.
pub noted_alias : (faults : Faults) → noted false true false faults ≡ record faults { alias = true }
noted_alias faults i =
    record faults { column = or_false faults.column i; alias = or_true faults.alias i; mismatch = or_false faults.mismatch i }

-- Errors recorded one after the other are recorded together.
pub noted_twice : (c a m c' a' m' : Bool) (faults : Faults) → noted c' a' m' (noted c a m faults) ≡ noted (c || c') (a || a') (m || m') faults
noted_twice c a m c' a' m' faults i = record faults {
  column = or_assoc faults.column c c' i;
  alias = or_assoc faults.alias a a' i;
  mismatch = or_assoc faults.mismatch m m' i;
}
