-- Multisets: one more element on both sides can be left out.
use Rattle.std.proofs.Common.{◌≡◌, ℕ, ◌+◌, ◌≤◌, List, [], ◌∷◌, Bool, true, false, cond, refl, sym, ap, ◌∙◌, subst, zero-add, arith}
use Rattle.std.specs.Prelude.{sum_by, IsPermutation}
use Rattle.std.specs.List.{Contains, remove, filter}
use Rattle.std.proofs.lemmas.List.Sums.{sum_by-cons}
use Rattle.std.proofs.lemmas.List.Elements.{Contains-append_left, Contains-append_right, Contains-push}
use Rattle.std.proofs.lemmas.List.Sorted.{IsPermutation-refl, IsPermutation-cons, IsPermutation-trans, IsPermutation-sym, IsPermutation-remove}
use Rattle.std.proofs.lemmas.List.Sorted.{sum_by-IsPermutation}

module _ {X : Type 0} (same : X → X → Bool) (told : (a b : X) → same a b ≡ true → a ≡ b) (itself : (a : X) → same a a ≡ true) where
  abbrev one : X → X → ℕ
  one x y = cond (same x y) 1 0

  abbrev count : X → List X → ℕ
  count x ys = sum_by (one x) ys

  here : (x y : X) (ys : List X) → y ≡ x → Contains (y ∷ ys) x
  here x y ys is = Contains-append_left (y ∷ []) ys x (subst (Contains (y ∷ [])) is (Contains-push [] y))

  found : (x y : X) (ys : List X) (b : Bool) → same x y ≡ b → 1 ≤ cond b 1 0 + count x ys → (1 ≤ count x ys → Contains ys x) → Contains (y ∷ ys) x
  found x y ys true is some rest = here x y ys (sym (told x y is))
  found x y ys false is some rest = Contains-append_right (y ∷ []) ys x (rest (omega arith))

  -- a counted element is in the list
  counted : (x : X) (ys : List X) → 1 ≤ count x ys → Contains ys x
  counted x [] some = absurd (omega arith)
  counted x (y ∷ ys) some = found x y ys (same x y) refl (omega (arith, sum_by-cons (one x) y ys)) (counted x ys)

  -- lists with equal counts are permutations of each other
  pub IsPermutation-from_counts : (xs ys : List X) → ((x : X) → count x xs ≡ count x ys) → IsPermutation xs ys
  IsPermutation-from_counts [] [] alike = IsPermutation-refl []
  IsPermutation-from_counts [] (y ∷ ys) alike =
      let is : one y y ≡ 1 = ap {B = ℕ} (λ b. cond b 1 0) (itself y) in
      absurd (omega (arith, alike y, sum_by-cons (one y) y ys, is))
  IsPermutation-from_counts (x ∷ xs) ys alike =
      let is : one x x ≡ 1 = ap {B = ℕ} (λ b. cond b 1 0) (itself x) in
      let some : 1 ≤ count x ys = omega (arith, alike x, sum_by-cons (one x) x xs, is) in
      let (at, within, there) = counted x ys some in
      let moved : IsPermutation ys (x ∷ remove ys at) = IsPermutation-remove ys at x within (sym there) in
      let rest : IsPermutation xs (remove ys at) = IsPermutation-from_counts xs (remove ys at)
      (λ z. omega (
        arith,
        alike z,
        sum_by-cons (one z) x xs,
        sum_by-IsPermutation (one z) ys (x ∷ remove ys at) moved,
        sum_by-cons (one z) x
            (remove ys at),
      )) in
      IsPermutation-trans (x ∷ xs) (x ∷ remove ys at) ys (IsPermutation-cons x xs (remove ys at) rest) (IsPermutation-sym ys (x ∷ remove ys at) moved)

  -- without the same element on both sides, two multisets are still equal
  pub IsPermutation-uncons : (x : X) (xs ys : List X) → IsPermutation (x ∷ xs) (x ∷ ys) → IsPermutation xs ys
  IsPermutation-uncons x xs ys moved =
      IsPermutation-from_counts xs ys
      (λ z. omega (arith, sum_by-IsPermutation (one z) (x ∷ xs) (x ∷ ys) moved, sum_by-cons (one z) x xs, sum_by-cons (one z) x ys))

-- the sum over the elements that pass a test
module _ {X : Type 0} (f : X → ℕ) (p : X → Bool) where
  abbrev tested : X → ℕ
  tested x = cond (p x) (f x) 0

  sum_step : (b : Bool) (x : X) (xs : List X) (n : ℕ) → sum_by f xs ≡ n → sum_by f (cond b (x ∷ xs) xs) ≡ cond b (f x) 0 + n
  sum_step true x xs n e = sum_by-cons f x xs ∙ ap (λ (m : ℕ). f x + m) e
  sum_step false x xs n e = e ∙ sym (zero-add n)

  sum_by-passing : (xs : List X) → sum_by f (filter p xs) ≡ sum_by tested xs
  sum_by-passing [] = refl
  sum_by-passing (x ∷ xs) =
      sum_step (p x) x (filter p xs) (sum_by tested xs) (sum_by-passing xs) ∙ sym (sum_by-cons tested x xs)

-- equal multisets, filtered by one test, are equal
pub IsPermutation-filter : {X : Type 0} (same : X → X → Bool) (told : (a b : X) → same a b ≡ true → a ≡ b)
    (itself : (a : X) → same a a ≡ true) (p : X → Bool) (xs ys : List X) → IsPermutation xs ys
    → IsPermutation (filter p xs) (filter p ys)
IsPermutation-filter same told itself p xs ys moved =
    IsPermutation-from_counts same told itself (filter p xs) (filter p ys)
    (λ z.
    sum_by-passing (one same told itself z) p xs
    ∙ (sym (sum_by-IsPermutation (tested (one same told itself z) p) xs ys moved) ∙ sym (sum_by-passing (one same told itself z) p ys)))
