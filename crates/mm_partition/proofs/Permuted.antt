-- A property of each two elements of a list holds for each two of a permutation.
use Rattle.std.proofs.Common.{◌≡◌, ◌≢◌, ℕ, ◌<◌, ◌⊎◌, inl, inr, List, length, get_or, refl, sym, ap, ◌∙◌, subst, arith, ⊎_elim}
use Rattle.std.specs.Prelude.{IsPermutation}
use Rattle.std.specs.List.{AllPairs, swap}
use Rattle.std.proofs.lemmas.Bool.{cases_order}
use Rattle.std.proofs.lemmas.List.Edits.{swapped_from_swap}
use Rattle.std.proofs.lemmas.List.Sorted.{IsPermutation-keeps, IsPermutation-swap, length_permutation}

-- a symmetric relation between each two elements holds between each two of a permutation
module _ {X : Type 0} (R : X → X → Type 0) (turns : (a b : X) → R a b → R b a) where
  each_two : (xs : List X) → AllPairs R xs → (p q : ℕ) (d : X) → p ≢ q → p < length xs → q < length xs → R (get_or xs p d) (get_or xs q d)
  each_two xs all p q d differ below_p below_q =
      ⊎_elim (λ (e : p ≡ q). absurd (differ e))
      (λ (o : (p < q) ⊎ (q < p)). ⊎_elim (λ (h : p < q). all p q d h below_q) (λ (h : q < p). turns (get_or xs q d) (get_or xs p d) (all q p d h below_p)) o)
      (cases_order p q)

  -- the previous position of an element after an exchange of two
  abbrev Stood : ℕ → ℕ → ℕ → ℕ → Type 0
  Stood i j p k = ((p ≡ i) × (k ≡ j)) ⊎ (((p ≡ j) × (k ≡ i)) ⊎ ((p ≢ i) × (p ≢ j) × (k ≡ p)))

  stood_apart : (i j p q k m : ℕ) → Stood i j p k → Stood i j q m → p ≢ q → k ≢ m
  stood_apart i j p q k m a b differ same =
      ⊎_elim
      (λ (x : (p ≡ i) × (k ≡ j)). ⊎_elim (λ (y : (q ≡ i) × (m ≡ j)). differ (omega arith))
      (λ (o : ((q ≡ j) × (m ≡ i)) ⊎ ((q ≢ i) × (q ≢ j) × (m ≡ q))). ⊎_elim (λ (y : (q ≡ j) × (m ≡ i)). differ (omega arith))
      (λ (y : (q ≢ i) × (q ≢ j) × (m ≡ q)). y.1 (omega arith)) o) b)
      (λ (rest : ((p ≡ j) × (k ≡ i)) ⊎ ((p ≢ i) × (p ≢ j) × (k ≡ p))).
      ⊎_elim
      (λ (x : (p ≡ j) × (k ≡ i)). ⊎_elim (λ (y : (q ≡ i) × (m ≡ j)). differ (omega arith))
      (λ (o : ((q ≡ j) × (m ≡ i)) ⊎ ((q ≢ i) × (q ≢ j) × (m ≡ q))). ⊎_elim (λ (y : (q ≡ j) × (m ≡ i)). differ (omega arith))
      (λ (y : (q ≢ i) × (q ≢ j) × (m ≡ q)). y.0 (omega arith)) o) b)
      (λ (x : (p ≢ i) × (p ≢ j) × (k ≡ p)). ⊎_elim (λ (y : (q ≡ i) × (m ≡ j)). x.1 (omega arith))
      (λ (o : ((q ≡ j) × (m ≡ i)) ⊎ ((q ≢ i) × (q ≢ j) × (m ≡ q))). ⊎_elim (λ (y : (q ≡ j) × (m ≡ i)). x.0 (omega arith))
      (λ (y : (q ≢ i) × (q ≢ j) × (m ≡ q)). differ (omega arith)) o) b)
      rest)
      a

  same_place : (a b : ℕ) → (a ≡ b) ⊎ (a ≢ b)
  same_place a b = ⊎_elim (λ (e : a ≡ b). inl e)
      (λ (o : (a < b) ⊎ (b < a)). inr
      (λ (e : a ≡ b). ⊎_elim (λ (h : a < b). let no : ⊥ = omega arith in no) (λ (h : b < a). let no : ⊥ = omega arith in no) o)) (cases_order a b)

  abbrev From : List X → ℕ → ℕ → ℕ → X → Type 0
  From l i j p d = (k : ℕ) × (Stood i j p k) × (k < length l) × (get_or (swap l i j) p d ≡ get_or l k d)

  from : (l : List X) (i j p : ℕ) (d : X) → i < length l → j < length l → p < length l → From l i j p d
  from l i j p d below_i below_j below_p =
      let moves = swapped_from_swap l (swap l i j) i j d below_i below_j refl in
      ⊎_elim
      (λ (e : p ≡ i). let is : get_or (swap l i j) p d ≡ get_or l j d = ap (λ (n : ℕ). get_or (swap l i j) n d) e ∙ moves.0 in
      let it : From l i j p d = (j, inl (e, refl), below_j, is) in it)
      (λ (n : p ≢ i).
      ⊎_elim
      (λ (e : p ≡ j). let is : get_or (swap l i j) p d ≡ get_or l i d = ap (λ (n : ℕ). get_or (swap l i j) n d) e ∙ moves.1 in
      let it : From l i j p d = (i, inr (inl (e, refl)), below_i, is) in it)
      (λ (m : p ≢ j). let it : From l i j p d = (p, inr (inr (n, m, refl)), below_p, moves.2 p n m) in it)
      (same_place p j))
      (same_place p i)

  AllPairs-swap : (l : List X) (i j : ℕ) → i < length l → j < length l → AllPairs R l → AllPairs R (swap l i j)
  AllPairs-swap l i j below_i below_j all p q d before within =
      let size : length (swap l i j) ≡ length l = length_permutation l (swap l i j) (IsPermutation-swap l (swap l i j) i j below_i below_j refl) in
      let a : From l i j p d = from l i j p d below_i below_j (omega arith) in
      let b : From l i j q d = from l i j q d below_i below_j (omega arith) in
      let there : R (get_or l a.0 d) (get_or l b.0 d) = each_two l all a.0 b.0 d
      (stood_apart i j p q a.0 b.0 a.1 b.1 (λ (e : p ≡ q). let no : ⊥ = omega arith in no)) a.2 b.2 in
      subst (λ (x : X). R x (get_or (swap l i j) q d)) (sym a.3) (subst (R (get_or l a.0 d)) (sym b.3) there)

  pub AllPairs-permutation : (xs ys : List X) → IsPermutation xs ys → AllPairs R xs → AllPairs R ys
  AllPairs-permutation xs ys moved all = IsPermutation-keeps xs (AllPairs R) all (λ l i j below_i below_j here. AllPairs-swap l i j below_i below_j here) ys
      moved
