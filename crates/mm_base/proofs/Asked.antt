-- A test of the items of a list, one after another.
use Rattle.std.proofs.Common.{◌≡◌, ◌+◌, ◌<◌, ◌≤◌, ℕ, ⊎_elim, Bool, true, false, ◌||◌, List, length, get_or, take, sym, ap, ◌∙◌, subst, arith}
use Rattle.std.specs.List.{All, list_any}
use Rattle.std.proofs.lemmas.Bool.{cases_lt}
use Rattle.std.proofs.lemmas.List.{get_or_default, take_all}
use Rattle.std.proofs.lemmas.List.Folds.{list_any_at, list_any_more}

module _ {X : Type 0} (p : X → Bool) (P : X → Type 0) (xs : List X) (i : ℕ) where
  module _ (d x : X) (within : i < length xs) (is : x ≡ get_or xs i d) where
    -- the item passes
    pub any_passes : p x ≡ true → true ≡ list_any p xs
    any_passes holds = sym (list_any_at p xs i d within (ap p (sym is) ∙ holds))

    -- the item does not pass
    pub none_more : p x ≡ false → list_any p (take i xs) ≡ false → list_any p (take (i + 1) xs) ≡ false
    none_more fails none =
        list_any_more p xs i d within ∙ (ap (λ (b : Bool). b || p (get_or xs i d)) none ∙ (ap p (sym is) ∙ fails))

    pub found_more : P x → ((k : ℕ) (e : X) → k < i → P (get_or xs k e)) → (k : ℕ) (e : X) → k < i + 1 → P (get_or xs k e)
    found_more here found k e below =
        ⊎_elim
        (λ (before : k < i). found k e before)
        (λ (after : i ≤ k).
        let same : k ≡ i = omega (arith, after, below) in
        subst P (is ∙ (get_or_default xs i d e within ∙ ap (λ (n : ℕ). get_or xs n e) (sym same))) here)
        (cases_lt k i)

  module _ (past : length xs ≤ i) where
    pub none_all : list_any p (take i xs) ≡ false → false ≡ list_any p xs
    none_all none = sym (ap (list_any p) (sym (take_all i xs past)) ∙ none)

    pub found_all : ((k : ℕ) (e : X) → k < i → P (get_or xs k e)) → All P xs
    found_all found k e within = found k e (omega (arith, within, past))
