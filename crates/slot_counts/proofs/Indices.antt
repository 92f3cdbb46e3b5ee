-- The indices of flags that are set.
use Rattle.std.proofs.Common.{◌≡◌, ℕ, zero, suc, ◌+◌, ◌<◌, ◌≤◌, Bool, true, false, true≢false, cond, List, [], ◌∷◌, ◌++◌, length, get_or, set}
use Rattle.std.proofs.Common.{refl, ap, ◌∙◌, subst, arith}
use Rattle.std.specs.Prelude.{IsPermutation}
use Rattle.std.specs.List.{All}
use Rattle.std.proofs.lemmas.List.Elements.{All-cons, All-nil}
use Rattle.std.proofs.lemmas.List.Sorted.{IsPermutation-cons, IsPermutation-middle, IsPermutation-refl, IsPermutation-trans}
use Rattle.slot_counts.specs.Sets.{indices_from}

-- There are no more indices than flags.
pub few_indices : (k : ℕ) (fs : List Bool) → length (indices_from k fs) ≤ length fs
few_indices k [] = omega arith
few_indices k (true ∷ fs) = omega (arith, few_indices (suc k) fs)
few_indices k (false ∷ fs) = omega (arith, few_indices (suc k) fs)

-- There are fewer if a flag is not set.
pub fewer_indices : (k i : ℕ) (fs : List Bool) → i < length fs → get_or fs i false ≡ false → length (indices_from k fs) < length fs
fewer_indices k i [] within out = absurd (omega (arith, within))
fewer_indices k zero (true ∷ fs) within out = absurd (true≢false out)
fewer_indices k zero (false ∷ fs) within out = omega (arith, few_indices (suc k) fs)
fewer_indices k (suc i) (true ∷ fs) within out = omega (arith, fewer_indices (suc k) i fs (omega (arith, within)) out)
fewer_indices k (suc i) (false ∷ fs) within out = omega (arith, fewer_indices (suc k) i fs (omega (arith, within)) out)

-- A flag that is not set is appended.
pub indices_push : (k : ℕ) (fs : List Bool) → indices_from k (fs ++ false ∷ []) ≡ indices_from k fs
indices_push k [] = refl
indices_push k (true ∷ fs) = ap (λ l. k ∷ l) (indices_push (suc k) fs)
indices_push k (false ∷ fs) = indices_push (suc k) fs

second_first : (a b : ℕ) (xs : List ℕ) → IsPermutation (a ∷ b ∷ xs) (b ∷ a ∷ xs)
second_first a b xs = IsPermutation-middle (a ∷ []) b xs

-- One more flag is set.
pub indices_set : (k i : ℕ) (fs : List Bool) → i < length fs → get_or fs i false ≡ false
    → IsPermutation (indices_from k (set fs i true)) ((k + i) ∷ indices_from k fs)
indices_set k i [] within out = absurd (omega (arith, within))
indices_set k zero (true ∷ fs) within out = absurd (true≢false out)
indices_set k zero (false ∷ fs) within out =
    subst (λ (n : ℕ). IsPermutation (k ∷ indices_from (suc k) fs) (n ∷ indices_from (suc k) fs)) (let e : k ≡ k + 0 = omega arith in e)
    (IsPermutation-refl (k ∷ indices_from (suc k) fs))
indices_set k (suc i) (true ∷ fs) within out =
    let rest : IsPermutation (indices_from (suc k) (set fs i true)) ((suc k + i) ∷ indices_from (suc k) fs) =
    indices_set (suc k) i fs (omega (arith, within)) out in
    subst (λ (n : ℕ). IsPermutation (k ∷ indices_from (suc k) (set fs i true)) (n ∷ k ∷ indices_from (suc k) fs))
    (let e : suc k + i ≡ k + suc i = omega arith in e)
    (IsPermutation-trans (k ∷ indices_from (suc k) (set fs i true)) (k ∷ (suc k + i) ∷ indices_from (suc k) fs)
    ((suc k + i) ∷ k ∷ indices_from (suc k) fs)
    (IsPermutation-cons k (indices_from (suc k) (set fs i true)) ((suc k + i) ∷ indices_from (suc k) fs) rest)
    (second_first k (suc k + i) (indices_from (suc k) fs)))
indices_set k (suc i) (false ∷ fs) within out =
    subst (λ (n : ℕ). IsPermutation (indices_from (suc k) (set fs i true)) (n ∷ indices_from (suc k) fs))
    (let e : suc k + i ≡ k + suc i = omega arith in e)
    (indices_set (suc k) i fs (omega (arith, within)) out)

-- Each is the index of a flag that is set.
pub indices_are : (f : ℕ → Bool) (k : ℕ) (fs : List Bool) → ((j : ℕ) → f (k + j) ≡ get_or fs j false) → All (λ i. f i ≡ true) (indices_from k fs)
indices_are f k [] same = All-nil (λ i. f i ≡ true)
indices_are f k (b ∷ fs) same = by b (ap f (let e : k ≡ k + 0 = omega arith in e) ∙ same zero)
    (indices_are f (suc k) fs (λ j. ap f (let e : suc k + j ≡ k + suc j = omega arith in e) ∙ same (suc j)))
  where
    by : (b : Bool) → f k ≡ b → All (λ i. f i ≡ true) (indices_from (suc k) fs)
        → All (λ i. f i ≡ true) (cond b (k ∷ indices_from (suc k) fs) (indices_from (suc k) fs))
    by true is rest = All-cons (λ i. f i ≡ true) k (indices_from (suc k) fs) is rest
    by false is rest = rest

-- If there are no indices, no flag is set.
pub none_set : (k : ℕ) (fs : List Bool) → indices_from k fs ≡ [] → (i : ℕ) → get_or fs i false ≡ false
none_set k [] none i = refl
none_set k (true ∷ fs) none i = absurd (let no : ⊥ = cc in no)
none_set k (false ∷ fs) none zero = refl
none_set k (false ∷ fs) none (suc i) = none_set (suc k) fs none i
