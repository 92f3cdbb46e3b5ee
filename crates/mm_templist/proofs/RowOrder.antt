-- Rows of referenced values, compared value by value: the rest decides.
use Rattle.std.proofs.Common.{◌≡◌, ◌≢◌, ℕ, ◌+◌, ◌<◌, ◌≤◌, cond, List, [], ◌∷◌, drop, get_or, length, refl, sym, ap, ◌∙◌, arith, length-drop}
use Rattle.std.specs.Cmp.{nat_cmp_total}
use Rattle.std.specs.Ordering.{nat_cmp, ordering_then}
use Rattle.std.specs.declared.cmp.Ordering.{Ordering}
use Rattle.std.specs.declared.cmp.Ordering.TheVariants.{Less, Equal, Greater}
use Rattle.std.specs.Prelude.{◌==◌}
use Rattle.std.proofs.lemmas.Bool.{lt-ltb}
use Rattle.std.proofs.lemmas.Cmp.{tied_itself}
use Rattle.std.proofs.lemmas.List.{drop_all, drop-map, drop_more, length-map}
use Rattle.mm_value.specs.Views.{value_of}
use Rattle.mm_value.specs.declared.value_ref.ValueRef.{ValueRef}
use Rattle.mm_value.specs.Order.{row_cmp, value_cmp}
use Rattle.mm_value.specs.declared.values.Value.{Value}
use Rattle.mm_templist.specs.Runs.{referred}

-- The first values are equal, and both rows have them, so the rows compare as their rests.
abbrev pub AreEqualTo : ℕ → List Value → List Value → Type 0
AreEqualTo i a b = (row_cmp (drop i a) (drop i b) ≡ row_cmp a b) × (i ≤ length b)

longer : (n : ℕ) (rest : List Value) → nat_cmp n (n + length rest) ≡ row_cmp [] rest
longer n [] = ap (nat_cmp n) (omega arith) ∙ tied_itself nat_cmp_total n
longer n (value ∷ rest) =
    let less : n < n + length (value ∷ rest) = omega arith in
    λ i. cond (lt-ltb n (n + length (value ∷ rest)) less i) Less (cond (n == n + length (value ∷ rest)) Equal Greater)

-- If all values of the first row equal those of the second, the lengths decide.
pub lengths_decide : (i : ℕ) (a b : List Value) → AreEqualTo i a b → i ≤ length a → length a ≤ i → nat_cmp (length a) (length b) ≡ row_cmp a b
lengths_decide i a b equal within ends =
    let here : length a ≡ i = omega (arith, within, ends) in
    let long : length b ≡ i + length (drop i b) = omega (arith, equal.1, length-drop i b) in
    (λ k. nat_cmp (here k) (long k)) ∙ (longer i (drop i b) ∙ (ap (λ l. row_cmp l (drop i b)) (sym (drop_all i a ends)) ∙ equal.0))

first_decides : (o rest : Ordering) → o ≢ Equal → o ≡ ordering_then o rest
first_decides Less rest other = refl
first_decides Equal rest other = absurd (other refl)
first_decides Greater rest other = refl

-- The value of a reference is before those of the later references.
in_front : (refs : List ValueRef) (i : ℕ) (x : ValueRef) → i < length refs → x ≡ get_or refs i x
    → drop i (referred refs) ≡ value_of x ∷ drop (i + 1) (referred refs)
in_front refs i x within is =
    drop-map value_of i refs
    ∙ (ap referred (drop_more refs i x within)
    ∙ (λ k. value_of (sym is k) ∷ sym (drop-map value_of (i + 1) refs) k))

module _ (a b : List ValueRef) (i : ℕ) (x : ValueRef) (equal : AreEqualTo i (referred a) (referred b)) (within : i < length a) (is : x ≡ get_or a i x) where
  -- A row with more values than the equal ones of another is greater.
  pub longer_is_greater : length b ≤ i → Greater ≡ row_cmp (referred a) (referred b)
  longer_is_greater ends =
      let none : drop i (referred b) ≡ [] = drop_all i (referred b) (omega (arith, ends, length-map b value_of)) in
      sym (λ k. row_cmp (in_front a i x within is k) (none k)) ∙ equal.0

  module _ (y : ValueRef) (there : i < length b) (same : y ≡ get_or b i y) where
    behind : ordering_then (value_cmp (value_of x) (value_of y)) (row_cmp (drop (i + 1) (referred a)) (drop (i + 1) (referred b)))
        ≡ row_cmp (referred a) (referred b)
    behind = sym (λ k. row_cmp (in_front a i x within is k) (in_front b i y there same k)) ∙ equal.0

    -- The first values that differ decide.
    pub differing_decide : value_cmp (value_of x) (value_of y) ≢ Equal → value_cmp (value_of x) (value_of y) ≡ row_cmp (referred a) (referred b)
    differing_decide other =
        first_decides (value_cmp (value_of x) (value_of y)) (row_cmp (drop (i + 1) (referred a)) (drop (i + 1) (referred b))) other ∙ behind

    -- After equal values, the rows still compare as their rests.
    pub AreEqualTo-more : value_cmp (value_of x) (value_of y) ≡ Equal → AreEqualTo (i + 1) (referred a) (referred b)
    AreEqualTo-more tie = (
      sym (ap (λ o. ordering_then o (row_cmp (drop (i + 1) (referred a)) (drop (i + 1) (referred b)))) tie) ∙ behind,
      omega (arith, there, length-map b value_of),
    )
