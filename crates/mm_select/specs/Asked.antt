-- The bounds that atoms set for a column of the first table.
use Rattle.std.specs.Prelude.{◌≡◌, ℕ, false, List, Option, Some, None, Contains}
use Rattle.std.specs.declared.cmp.Ordering.TheVariants.{Less, Greater}
use Rattle.mm_query.specs.Atoms.{stands}
use Rattle.mm_query.specs.declared.atom.Atom.{Atom}
use Rattle.mm_query.specs.declared.atom.Comparison.{Comparison}
use Rattle.mm_query.specs.declared.atom.Operand.TheVariants.{Literal}
use Rattle.mm_query.specs.declared.bound_query.FieldPlace.{FieldPlace}
use Rattle.mm_value.specs.declared.values.Value.{Value}

-- The atom that compares a column of the first table with this literal.
abbrev pub compares : ℕ → Comparison → Value → Atom FieldPlace
compares column comparison value = record { left = record { place = 0; column = column }; comparison = comparison; right = Literal value }

-- If there is a lower bound, one of the atoms is false for all lesser values of the column.
abbrev pub IsLow : List (Atom FieldPlace) → ℕ → Option Value → Type 0
IsLow atoms column None = Unit {0}
IsLow atoms column (Some value) = (comparison : Comparison) × (stands comparison Less ≡ false) × Contains atoms (compares column comparison value)

-- If there is an upper bound, one of the atoms is false for all greater values of the column.
abbrev pub IsHigh : List (Atom FieldPlace) → ℕ → Option Value → Type 0
IsHigh atoms column None = Unit {0}
IsHigh atoms column (Some value) = (comparison : Comparison) × (stands comparison Greater ≡ false) × Contains atoms (compares column comparison value)
