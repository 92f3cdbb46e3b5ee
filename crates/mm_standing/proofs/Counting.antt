-- Lists in which each element occurs equally often, and counts in a list.
use Rattle.std.proofs.Common.{◌≡◌, ℕ, zero, suc, ◌+◌, ◌<◌, min, Bool, true, false, cond, ◌||◌, List, [], ◌∷◌, get_or, length, refl, sym, ap, ◌∙◌, arith}
use Rattle.std.specs.List.{count_by, list_any, remove}
use Rattle.std.specs.List.Sorted.{IsPermutation}
use Rattle.std.proofs.lemmas.List.Sums.{sum_by-cons, sum_by-remove}
use Rattle.std.proofs.lemmas.List.Sorted.{IsPermutation-cons, IsPermutation-refl, IsPermutation-remove, IsPermutation-sym, IsPermutation-trans}

-- Whether some element passes is whether one is counted.
pub counted_once : {X : Type 0} (p : X → Bool) (xs : List X) → cond (list_any p xs) 1 0 ≡ min (count_by p xs) 1
counted_once p [] = refl
counted_once p (x ∷ xs) = by (p x) (counted_once p xs) ∙ ap (λ n. min n 1) (sym (sum_by-cons (λ y. cond (p y) 1 0) x xs))
  where
    by : (b : Bool) → cond (list_any p xs) 1 0 ≡ min (count_by p xs) 1 → cond (b || list_any p xs) 1 0 ≡ min (cond b 1 0 + count_by p xs) 1
    by true later = omega arith
    by false later = omega (arith, later)

find_step : {X : Type 0} (p : X → Bool) (d y : X) (ys : List X) (b : Bool) → p y ≡ b → 0 < cond b 1 0 + count_by p ys
    → (0 < count_by p ys → (i : ℕ) × (i < length ys) × (p (get_or ys i d) ≡ true))
    → (i : ℕ) × (i < suc (length ys)) × (p (get_or (y ∷ ys) i d) ≡ true)
find_step p d y ys true e h f = (zero, omega arith, e)
find_step p d y ys false e h f = let r = f (omega arith) in (suc r.0, omega (arith, r.1), r.2)

-- A counted element is at some place, ..
pub find_counted : {X : Type 0} (p : X → Bool) (d : X) (ys : List X) → 0 < count_by p ys → (i : ℕ) × (i < length ys) × (p (get_or ys i d) ≡ true)
find_counted p d [] h = absurd (omega arith)
find_counted p d (y ∷ ys) h =
    find_step p d y ys (p y) refl (omega (arith, sum_by-cons (λ x. cond (p x) 1 0) y ys)) (find_counted p d ys)

-- .. and an element at some place is counted.
pub counted_at : {X : Type 0} (p : X → Bool) (xs : List X) (i : ℕ) (d : X) → i < length xs → p (get_or xs i d) ≡ true → 0 < count_by p xs
counted_at p [] i d within is = absurd (omega (arith, within))
counted_at p (x ∷ xs) zero d within is =
    let here : ◌≡◌ {A = ℕ} (cond (p x) 1 0) 1 = ap {B = ℕ} (λ b. cond b 1 0) is in
    omega (arith, here, sum_by-cons (λ y. cond (p y) 1 0) x xs)
counted_at p (x ∷ xs) (suc i) d within is =
    let later = counted_at p xs i d (omega (arith, within)) is in
    omega (arith, later, sum_by-cons (λ y. cond (p y) 1 0) x xs)

module _ {X : Type 0} (same : X → X → Bool) (itself : (x : X) → same x x ≡ true) (exact : (x y : X) → same x y ≡ true → x ≡ y) where
  one : (b : Bool) → b ≡ true → 0 < cond b 1 0
  one true h = omega arith
  one false h = cc

  pub permutation_from_counts : (xs ys : List X) → ((x : X) → count_by (same x) xs ≡ count_by (same x) ys) → IsPermutation xs ys
  permutation_from_counts [] [] h = IsPermutation-refl []
  permutation_from_counts [] (y ∷ ys) h =
      absurd (omega (arith, h y, sum_by-cons (λ x. cond (same y x) 1 0) y ys, one (same y y) (itself y)))
  permutation_from_counts (x ∷ xs) ys h =
      let place = find_counted (same x) x ys (omega (arith, h x, sum_by-cons (λ y. cond (same x y) 1 0) x xs, one (same x x) (itself x))) in
      let there : x ≡ get_or ys place.0 x = exact x (get_or ys place.0 x) place.2 in
      IsPermutation-trans (x ∷ xs) (x ∷ remove ys place.0) ys
      (IsPermutation-cons x xs (remove ys place.0) (permutation_from_counts xs (remove ys place.0)
      (λ r. omega (
        arith,
        h r,
        sum_by-cons (λ y. cond (same r y) 1 0) x xs,
        sum_by-remove (λ y. cond (same r y) 1 0) ys place.0 x place.1,
        ap {B = ℕ} (λ y. cond (same r y) 1 0) there,
      ))))
      (IsPermutation-sym ys (x ∷ remove ys place.0) (IsPermutation-remove ys place.0 x place.1 there))
