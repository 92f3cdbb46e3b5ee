-- Equality holds only of equal values and equal rows.
use Rattle.std.proofs.Common.{◌≡◌, true, List, subst}
use Rattle.std.specs.Bool.{Decides}
use Rattle.std.proofs.lemmas.Map.Views.{tells_apart}
use Rattle.mm_value.specs.Equality.{same_value, same_row}
use Rattle.mm_value.specs.EqualityLaws.{same_value_equiv, same_row_equiv}
use Rattle.mm_value.specs.declared.values.Value.{Value}
use Rattle.mm_value.proofs.Orders.{value_cmp_exact, row_cmp_exact}

pub values_exact : (a b : Value) → Decides (same_value a b) (a ≡ b)
values_exact a b =
    (tells_apart value_cmp_exact a b, λ e. subst (λ c. same_value a c ≡ true) e (same_value_equiv.refl a))

pub rows_exact : (a b : List Value) → Decides (same_row a b) (a ≡ b)
rows_exact a b =
    (tells_apart row_cmp_exact a b, λ e. subst (λ c. same_row a c ≡ true) e (same_row_equiv.refl a))
