-- The meaning of tests of a comparison.
use Rattle.std.proofs.Common.{◌≡◌, true, false, refl, sym, ap}
use Rattle.std.specs.Ordering.{is_eq, is_gt, is_lt, ordering_index, ordering_reverse}
use Rattle.std.specs.Prelude.{◌==◌}
use Rattle.std.specs.declared.cmp.Ordering.{Ordering}
use Rattle.std.specs.declared.cmp.Ordering.TheVariants.{Less, Equal, Greater}

pub is_eq_reversed : (o : Ordering) → is_eq (ordering_reverse o) ≡ is_eq o
is_eq_reversed Less = refl
is_eq_reversed Equal = refl
is_eq_reversed Greater = refl

pub equal_from_is_eq : (o : Ordering) → is_eq o ≡ true → o ≡ Equal
equal_from_is_eq Less e = (cc)
equal_from_is_eq Equal e = refl
equal_from_is_eq Greater e = (cc)

pub less_from_is_lt : (o : Ordering) → true ≡ is_lt o → o ≡ Less
less_from_is_lt Less e = refl
less_from_is_lt Equal e = (cc)
less_from_is_lt Greater e = (cc)

pub greater_from_is_gt : (o : Ordering) → is_gt o ≡ true → o ≡ Greater
greater_from_is_gt Less e = (cc)
greater_from_is_gt Equal e = (cc)
greater_from_is_gt Greater e = refl

pub less_from_neither : (o : Ordering) → is_eq o ≡ false → is_gt o ≡ false → o ≡ Less
less_from_neither Less e f = refl
less_from_neither Equal e f = (cc)
less_from_neither Greater e f = (cc)

-- neither equal nor less in the reverse order
pub less_from_no_tie : (o : Ordering) → is_eq o ≡ false → is_lt (ordering_reverse o) ≡ false → o ≡ Less
less_from_no_tie Less e f = refl
less_from_no_tie Equal e f = (cc)
less_from_no_tie Greater e f = (cc)

-- the meaning of `== Ordering::Less` and `== Ordering::Greater`
pub less_from_index : (o answer : Ordering) → answer ≡ o → true ≡ (ordering_index answer == 0) → o ≡ Less
less_from_index o Less is same = sym is
less_from_index o Equal is same = (cc)
less_from_index o Greater is same = (cc)

pub greater_from_index : (o answer : Ordering) → answer ≡ o → true ≡ (ordering_index answer == 2) → o ≡ Greater
greater_from_index o Less is same = (cc)
greater_from_index o Equal is same = (cc)
greater_from_index o Greater is same = sym is

pub not_greater_from_index : (o answer : Ordering) → answer ≡ o → false ≡ (ordering_index answer == 2) → is_gt o ≡ false
not_greater_from_index o Less is same = ap is_gt (sym is)
not_greater_from_index o Equal is same = ap is_gt (sym is)
not_greater_from_index o Greater is same = (cc)
