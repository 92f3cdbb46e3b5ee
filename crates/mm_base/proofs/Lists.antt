-- Lists made by a test, a step or a prefix.
use Rattle.std.proofs.Common.{◌≡◌, ℕ, zero, suc, ◌+◌, ◌<◌, Bool, true, false, List, [], ◌∷◌, ◌++◌, length, get_or, take, refl, sym, ap, ◌∙◌, subst, ⊎_elim}
use Rattle.std.proofs.Common.{arith}
use Rattle.std.specs.List.{All, filter, items_where_true, list_any}
use Rattle.std.specs.List.Retain.{ReturnsInTurn}
use Rattle.std.proofs.lemmas.Bool.{cases_Bool, cond-true, cond-false, false≢true}
use Rattle.std.proofs.lemmas.List.Folds.{list_any_at}

-- the result of a test that is unchanged
module _ {X P : Type 0} (R : P → X → Bool → P → Type 0) (test : X → Bool) (start : P)
    (says : (x : X) (b : Bool) (q : P) → R start x b q → (q ≡ start) × (b ≡ test x)) where
  pub kept_is : (bs : List Bool) (xs : List X) (q : P) → length bs ≡ length xs → ReturnsInTurn R start bs xs q → items_where_true bs xs ≡ filter test xs
  kept_is [] [] q size runs = refl
  kept_is [] (x ∷ xs) q size runs = absurd (omega (arith, size))
  kept_is (b ∷ bs) [] q size runs = absurd runs
  kept_is (true ∷ bs) (x ∷ xs) q size runs =
      let told = says x true runs.0 runs.1 in
      let rest : ReturnsInTurn R start bs xs q = subst (λ (p : P). ReturnsInTurn R p bs xs q) told.0 runs.2 in
      ap (λ (l : List X). x ∷ l) (kept_is bs xs q (omega (arith, size)) rest) ∙ sym (cond-true _ _ _ (sym told.1))
  kept_is (false ∷ bs) (x ∷ xs) q size runs =
      let told = says x false runs.0 runs.1 in
      let rest : ReturnsInTurn R start bs xs q = subst (λ (p : P). ReturnsInTurn R p bs xs q) told.0 runs.2 in
      kept_is bs xs q (omega (arith, size)) rest ∙ sym (cond-false _ _ _ (sym told.1))

-- one more element of a list
take_suc : {X : Type 0} (xs : List X) (i : ℕ) (d : X) → i < length xs → take (suc i) xs ≡ take i xs ++ get_or xs i d ∷ []
take_suc [] i d within = absurd (omega (arith, within))
take_suc (x ∷ xs) zero d within = refl
take_suc (x ∷ xs) (suc i) d within = ap (λ l. x ∷ l) (take_suc xs i d (omega (arith, within)))

pub take_more : {X : Type 0} (xs : List X) (i : ℕ) (d : X) → i < length xs → take (i + 1) xs ≡ take i xs ++ get_or xs i d ∷ []
take_more xs i d within = let more : i + 1 ≡ suc i = omega arith in ap (λ n. take n xs) more ∙ take_suc xs i d within

-- no element passes the test
pub none_of : {X : Type 0} (p : X → Bool) (xs : List X) → list_any p xs ≡ false → All (λ x. p x ≡ false) xs
none_of p xs none k d within =
    ⊎_elim
    (λ (holds : p (get_or xs k d) ≡ true). absurd (false≢true (sym none ∙ list_any_at p xs k d within holds)))
    (λ (fails : p (get_or xs k d) ≡ false). fails)
    (cases_Bool (p (get_or xs k d)))
