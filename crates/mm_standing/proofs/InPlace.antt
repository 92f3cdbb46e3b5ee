-- A list whose elements are changed in place, one after another.
use Rattle.std.proofs.Common.{◌≡◌, ℕ, zero, suc, ◌+◌, ◌<◌, ◌≤◌, List, [], ◌∷◌, ◌++◌, length, map, get_or, set, take, drop, refl, sym, ap, ◌∙◌, arith}
use Rattle.std.proofs.Math.Seq.{take-append_seam}

module _ {X : Type 0} (f : X → X) where
  -- the first i elements are changed, the others not yet
  abbrev pub changed_to : ℕ → List X → List X
  changed_to i xs = map f (take i xs) ++ drop i xs

  pub length_changed : (xs : List X) (i : ℕ) → length (changed_to i xs) ≡ length xs
  length_changed [] zero = refl
  length_changed [] (suc i) = refl
  length_changed (x ∷ xs) zero = refl
  length_changed (x ∷ xs) (suc i) = ap suc (length_changed xs i)

  -- the next element is unchanged
  pub next_unchanged : (xs : List X) (i : ℕ) (d : X) → get_or (changed_to i xs) i d ≡ get_or xs i d
  next_unchanged [] zero d = refl
  next_unchanged [] (suc i) d = refl
  next_unchanged (x ∷ xs) zero d = refl
  next_unchanged (x ∷ xs) (suc i) d = next_unchanged xs i d

  changed_suc : (xs : List X) (i : ℕ) (d : X) → i < length xs → set (changed_to i xs) i (f (get_or xs i d)) ≡ changed_to (suc i) xs
  changed_suc [] i d within = absurd (omega (arith, within))
  changed_suc (x ∷ xs) zero d within = refl
  changed_suc (x ∷ xs) (suc i) d within = ap (λ l. f x ∷ l) (changed_suc xs i d (omega (arith, within)))

  -- one more element is changed
  pub changed_more : (xs now : List X) (i : ℕ) (y d : X) → now ≡ changed_to i xs → i < length xs → y ≡ f (get_or now i d)
      → set now i y ≡ changed_to (i + 1) xs
  changed_more xs now i y d so_far within is =
      let more : suc i ≡ i + 1 = omega arith in
      let was : y ≡ f (get_or xs i d) = is ∙ ap (λ (l : List X). f (get_or l i d)) so_far ∙ ap f (next_unchanged xs i d) in
      (λ k. set (so_far k) i (was k)) ∙ changed_suc xs i d within ∙ ap (λ n. changed_to n xs) more

  -- all elements are changed
  pub changed_all : (xs : List X) (i : ℕ) → length xs ≤ i → changed_to i xs ≡ map f xs
  changed_all [] zero past = refl
  changed_all [] (suc i) past = refl
  changed_all (x ∷ xs) zero past = absurd (omega (arith, past))
  changed_all (x ∷ xs) (suc i) past = ap (λ l. f x ∷ l) (changed_all xs i (omega (arith, past)))

  -- a vector that is written back whole has the changed elements
  pub changed_whole : (xs now rest : List X) (i n : ℕ) → now ≡ changed_to i xs → length now ≤ i → n ≡ length now → take n (now ++ rest) ≡ map f xs
  changed_whole xs now rest i n so_far past all =
      let long : length xs ≡ length now = sym (length_changed xs i) ∙ ap (λ (l : List X). length l) (sym so_far) in
      ap (λ m. take m (now ++ rest)) all ∙ take-append_seam now rest ∙ so_far ∙ changed_all xs i (omega (arith, long, past))
