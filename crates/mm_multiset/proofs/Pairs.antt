-- Pairs of a hash and a reference: removing the same pair from two permuted lists leaves permuted lists.
use Rattle.std.proofs.Common.{◌≡◌, ℕ, ◌+◌, ◌≤◌, List, [], ◌∷◌, Bool, true, false, ◌&&◌, cond, eqb, refl, sym, ap, subst, arith}
use Rattle.std.specs.Prelude.{IsPermutation}
use Rattle.std.specs.List.{Contains, remove, sum_by}
use Rattle.std.proofs.lemmas.Bool.{and_parts, eq-eqb, eqb-true}
use Rattle.std.proofs.lemmas.List.Elements.{Contains-append_left, Contains-append_right, Contains-push}
use Rattle.std.proofs.lemmas.List.Sums.{sum_by-cons}
use Rattle.std.proofs.lemmas.List.Sorted.{IsPermutation-cons, IsPermutation-refl, IsPermutation-remove}
use Rattle.std.proofs.lemmas.List.Sorted.{IsPermutation-sym, IsPermutation-trans, sum_by-IsPermutation}
use Rattle.mm_value.specs.declared.row_ref.RowRef.{RowRef}

abbrev Pair : Type 0
Pair = ℕ × RowRef

same_pair : Pair → Pair → Bool
same_pair p q = eqb p.0 q.0 && eqb p.1.slot q.1.slot

told : (p q : Pair) → same_pair p q ≡ true → p ≡ q
unfolding same_pair
told p q e =
    let parts = and_parts (eqb p.0 q.0) (eqb p.1.slot q.1.slot) e in
    λ i. (eqb-true p.0 q.0 parts.0 i, record { slot = eqb-true p.1.slot q.1.slot parts.1 i })

itself : (p : Pair) → same_pair p p ≡ true
unfolding same_pair
itself p = rw (eq-eqb p.0 p.0 refl, eq-eqb p.1.slot p.1.slot refl)

-- 1 for this pair, and 0 for every other
one : Pair → Pair → ℕ
one p q = cond (same_pair p q) 1 0

one_itself : (p : Pair) → one p p ≡ 1
unfolding one
one_itself p = ap {B = ℕ} (λ b. cond b 1 0) (itself p)

first : (p q : Pair) (qs : List Pair) → q ≡ p → Contains (q ∷ qs) p
first p q qs is = Contains-append_left (q ∷ []) qs p (subst (Contains (q ∷ [])) is (Contains-push [] q))

-- A pair that is counted is in the list.
counted : (p : Pair) (qs : List Pair) → 1 ≤ sum_by (one p) qs → Contains qs p
unfolding one
counted p [] some = absurd (let no : ⊥ = omega arith in no)
counted p (q ∷ qs) some = by (same_pair p q) refl (omega (arith, some, sum_by-cons (one p) q qs)) (counted p qs)
  where
    by : (b : Bool) → same_pair p q ≡ b → 1 ≤ cond b 1 0 + sum_by (one p) qs → (1 ≤ sum_by (one p) qs → Contains qs p) → Contains (q ∷ qs) p
    by true is some rest = first p q qs (sym (told p q is))
    by false is some rest = Contains-append_right (q ∷ []) qs p (rest (omega (arith, some)))

-- Lists with equal counts are permutations of each other.
from_counts : (ps qs : List Pair) → ((p : Pair) → sum_by (one p) ps ≡ sum_by (one p) qs) → IsPermutation ps qs
from_counts [] [] alike = IsPermutation-refl []
from_counts [] (q ∷ qs) alike = absurd (let no : ⊥ = omega (arith, alike q, sum_by-cons (one q) q qs, one_itself q) in no)
from_counts (p ∷ ps) qs alike =
    let some : 1 ≤ sum_by (one p) qs = omega (arith, alike p, sum_by-cons (one p) p ps, one_itself p) in
    let (at, within, there) = counted p qs some in
    let moved : IsPermutation qs (p ∷ remove qs at) = IsPermutation-remove qs at p within (sym there) in
    let rest : IsPermutation ps (remove qs at) = from_counts ps (remove qs at)
    (λ z. omega (
      arith,
      alike z,
      sum_by-cons (one z) p ps,
      sum_by-IsPermutation (one z) qs (p ∷ remove qs at) moved,
      sum_by-cons (one z) p (remove qs at),
    )) in
    IsPermutation-trans (p ∷ ps) (p ∷ remove qs at) qs (IsPermutation-cons p ps (remove qs at) rest) (IsPermutation-sym qs (p ∷ remove qs at) moved)

pub IsPermutation-uncons : (p : Pair) (ps qs : List Pair) → IsPermutation (p ∷ ps) (p ∷ qs) → IsPermutation ps qs
IsPermutation-uncons p ps qs moved =
    from_counts ps qs
    (λ z. omega (arith, sum_by-IsPermutation (one z) (p ∷ ps) (p ∷ qs) moved, sum_by-cons (one z) p ps, sum_by-cons (one z) p qs))
