-- Storable values.
use Rattle.std.proofs.Common.{◌≤◌, ◌<◌, ℕ, List, length, pos, sym, subst, rules, ⊎_elim}
use Rattle.std.specs.Prelude.{FitsSigned}
use Rattle.std.specs.Int.{w64}
use Rattle.std.proofs.Math.ListN.{get_or-eq_default}
use Rattle.std.proofs.lemmas.Bool.{cases_lt}
use Rattle.std.proofs.lemmas.List.Elements.{All-get_or}
use Rattle.mm_value.specs.Storable.{AreStorable, IsStorable}
use Rattle.mm_value.specs.declared.values.Value.{Value}
use Rattle.mm_value.specs.declared.values.Value.TheVariants.{Int}
use Rattle.mm_query.specs.Atoms.{value_in}

zero_fits : FitsSigned w64 (pos 0)
zero_fits = search rules

-- The value of a row in a column is storable, if all values of the row are.
pub value_in_storable : (column : ℕ) (row : List Value) → AreStorable row → IsStorable (value_in column row)
value_in_storable column row all =
    ⊎_elim
    (λ (inside : column < length row). All-get_or IsStorable row column (Int (pos 0)) inside all)
    (λ (outside : length row ≤ column). subst IsStorable (sym (get_or-eq_default row (Int (pos 0)) outside)) zero_fits)
    (cases_lt column (length row))
