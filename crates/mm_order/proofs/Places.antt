-- One result of a probe determines those of the entries before or after it, if the results are ascending along the list.
use Rattle.std.proofs.Common.{◌≡◌, ◌≢◌, ℕ, ◌+◌, ◌<◌, ◌≤◌, true, false, List, length, get_or, refl, subst, arith}
use Rattle.std.proofs.lemmas.List.{get_or_default}
use Rattle.std.specs.List.{AllWithin}
use Rattle.std.specs.List.Sorted.{IsNonDecreasingBy}
use Rattle.std.specs.Ordering.{ordering_index, is_lt, is_le}
use Rattle.std.specs.declared.cmp.Ordering.{Ordering}
use Rattle.std.specs.declared.cmp.Ordering.TheVariants.{Less, Equal, Greater}

-- ---- one result

-- only Less is not after Less
pub less_below : (o : Ordering) → ordering_index o ≤ ordering_index Less → o ≡ Less
less_below Less h = refl
less_below Equal h = absurd (omega arith)
less_below Greater h = absurd (omega arith)

-- only Greater is not before Greater
pub greater_above : (o : Ordering) → ordering_index Greater ≤ ordering_index o → o ≡ Greater
greater_above Less h = absurd (omega arith)
greater_above Equal h = absurd (omega arith)
greater_above Greater h = refl

-- the tests `is_lt` and `is_le`
pub less_from_is_lt : (o : Ordering) → is_lt o ≡ true → o ≡ Less
less_from_is_lt Less e = refl
less_from_is_lt Equal e = (cc)
less_from_is_lt Greater e = (cc)

pub not_less_from_is_lt : (o : Ordering) → is_lt o ≡ false → o ≢ Less
not_less_from_is_lt Less e = absurd (cc)
not_less_from_is_lt Equal e = λ f. cc
not_less_from_is_lt Greater e = λ f. cc

pub not_greater_from_is_le : (o : Ordering) → is_le o ≡ true → o ≢ Greater
not_greater_from_is_le Less e = λ f. cc
not_greater_from_is_le Equal e = λ f. cc
not_greater_from_is_le Greater e = absurd (cc)

pub greater_from_is_le : (o : Ordering) → is_le o ≡ false → o ≡ Greater
greater_from_is_le Less e = absurd (cc)
greater_from_is_le Equal e = absurd (cc)
greater_from_is_le Greater e = refl

-- ---- the entries before and after

module _ {X : Type 0} (place : X → Ordering) (xs : List X) (at : ℕ) (d : X) (rise : IsNonDecreasingBy (λ x. ordering_index (place x)) xs)
    (within : at < length xs) where
  up_to : (k : ℕ) (e : X) → k ≤ at → ordering_index (place (get_or xs k e)) ≤ ordering_index (place (get_or xs at d))
  up_to k e below =
      subst (λ y. ordering_index (place (get_or xs k e)) ≤ ordering_index (place y)) (get_or_default xs at e d within) (rise k at e below within)

  from_on : (k : ℕ) (e : X) → at ≤ k → k < length xs → ordering_index (place (get_or xs at d)) ≤ ordering_index (place (get_or xs k e))
  from_on k e above inside =
      subst (λ y. ordering_index (place y) ≤ ordering_index (place (get_or xs k e))) (get_or_default xs at e d within) (rise at k e above inside)

  -- all entries up to one before the position are before it
  pub less_up_to : place (get_or xs at d) ≡ Less → AllWithin (λ x. place x ≡ Less) xs 0 (at + 1)
  less_up_to is k e _ below =
      less_below (place (get_or xs k e)) (subst (λ o. ordering_index (place (get_or xs k e)) ≤ ordering_index o) is (up_to k e (omega arith)))

  -- no entry from one that is not before the position on is before it
  pub not_less_from : place (get_or xs at d) ≢ Less → AllWithin (λ x. place x ≢ Less) xs at (length xs)
  not_less_from is k e above inside less =
      is (less_below (place (get_or xs at d)) (subst (λ o. ordering_index (place (get_or xs at d)) ≤ ordering_index o) less (from_on k e above inside)))

  -- no entry up to one that is not after the position is after it
  pub not_greater_up_to : place (get_or xs at d) ≢ Greater → AllWithin (λ x. place x ≢ Greater) xs 0 (at + 1)
  not_greater_up_to is k e _ below greater =
      is (greater_above (place (get_or xs at d)) (subst (λ o. ordering_index o ≤ ordering_index (place (get_or xs at d))) greater (up_to k e (omega arith))))

  -- all entries from one after the position on are after it
  pub greater_from : place (get_or xs at d) ≡ Greater → AllWithin (λ x. place x ≡ Greater) xs at (length xs)
  greater_from is k e above inside =
      greater_above (place (get_or xs k e)) (subst (λ o. ordering_index o ≤ ordering_index (place (get_or xs k e))) is (from_on k e above inside))
