-- Values of rows that are read, and 0 past the end of a row.
use Rattle.std.proofs.Common.{◌≡◌, ℕ, List, Option, None, Some, pos, refl, ap, ◌∙◌}
use Rattle.std.specs.Option.{option_map, unwrap_or}
use Rattle.std.specs.Prelude.{slice_get}
use Rattle.std.proofs.lemmas.Option.{unwrap_or-slice_get}
use Rattle.mm_value.specs.Views.{value_of}
use Rattle.mm_value.specs.declared.value_ref.ValueRef.{ValueRef}
use Rattle.mm_value.specs.declared.value_ref.ValueRef.TheVariants as view
use Rattle.mm_value.specs.declared.values.Value.{Value}
use Rattle.mm_value.specs.declared.values.Value.TheVariants.{Int}
use Rattle.mm_query.specs.Atoms.{value_in}

-- A missing value counts as 0.
or_zero : (found : Option ValueRef) → value_of (unwrap_or found (view.Int (pos 0))) ≡ unwrap_or (option_map value_of found) (Int (pos 0))
or_zero None = refl
or_zero (Some value) = refl

-- The value found in a column of a row is its value there.
pub read_in : (row : List Value) (column : ℕ) (found : Option ValueRef) → option_map value_of found ≡ slice_get row column
    → value_of (unwrap_or found (view.Int (pos 0))) ≡ value_in column row
read_in row column found is = or_zero found ∙ (ap (λ o. unwrap_or o (Int (pos 0))) is ∙ unwrap_or-slice_get row column (Int (pos 0)))
