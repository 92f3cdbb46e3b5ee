-- The list of changes after adding a change.
use Rattle.std.proofs.Common.{◌≡◌, ℕ, zero, suc, ◌<◌, ℤ, pos, ◌+ℤ◌, Bool, true, false, cond, ◌||◌, List, [], ◌∷◌, ◌++◌, All, length, get_or, set, refl, sym}
use Rattle.std.proofs.Common.{subst, ap, ◌∙◌, arith}
use Rattle.std.proofs.lemmas.Int.{ints}
use Rattle.std.proofs.lemmas.List.Elements.{All-cons, All-head, All-tail}
use Rattle.std.proofs.lemmas.Map.Keys.{IsDistinct-push}
use Rattle.std.specs.List.{IsDistinct, list_any}
use Rattle.mm_value.specs.Equality.{same_row}
use Rattle.mm_value.specs.EqualityLaws.{same_row_equiv}
use Rattle.mm_value.specs.declared.values.Value.{Value}
use Rattle.mm_value.proofs.SameRows.{rows_exact}
use Rattle.mm_multiset.specs.Counts.{signed_count}
use Rattle.mm_multiset.specs.Tally.{rows_changed, with_change}
use Rattle.mm_multiset.specs.declared.signed.Signed.{Signed}

abbrev more : Signed → ℤ → Signed
more x z = record { row = x.row; count = x.count +ℤ z }

-- The first change of the row becomes the sum.
pub with_change_at : (c : Signed) (xs : List Signed) (i : ℕ) (other : Signed) → i < length xs
    → ((k : ℕ) (d : Signed) → k < i → same_row c.row (get_or xs k d).row ≡ false) → same_row c.row (get_or xs i other).row ≡ true
    → set xs i (more (get_or xs i other) c.count) ≡ with_change c xs
with_change_at c [] i other h before here = absurd (let no : ⊥ = omega (arith, h) in no)
with_change_at c (x ∷ xs) zero other h before here = ap (λ b. cond b (more x c.count ∷ xs) (x ∷ with_change c xs)) (sym here)
with_change_at c (x ∷ xs) (suc i) other h before here =
    ap (λ l. x ∷ l) (with_change_at c xs i other (omega (arith, h)) (λ k d below. before (suc k) d (omega (arith, below))) here)
    ∙ ap (λ b. cond b (more x c.count ∷ xs) (x ∷ with_change c xs)) (sym (before zero x (omega arith)))

-- The change of a row without one is appended.
pub with_change_new : (c : Signed) (xs : List Signed) → ((k : ℕ) (d : Signed) → k < length xs → same_row c.row (get_or xs k d).row ≡ false)
    → xs ++ c ∷ [] ≡ with_change c xs
with_change_new c [] none = refl
with_change_new c (x ∷ xs) none =
    ap (λ l. x ∷ l) (with_change_new c xs (λ k d below. none (suc k) d (omega (arith, below))))
    ∙ ap (λ b. cond b (more x c.count ∷ xs) (x ∷ with_change c xs)) (sym (none zero x (omega arith)))

-- The sum of the row's changes grows by the added one.
pub signed_with : (row : List Value) (c : Signed) (xs : List Signed)
    → signed_count row (with_change c xs) ≡ signed_count row xs +ℤ signed_count row (c ∷ [])
signed_with row c [] = turned (signed_count row (c ∷ []))
  where
    turned : (a : ℤ) → a ≡ pos 0 +ℤ a
    turned a = omega (arith, ints)
signed_with row c (x ∷ xs) = by (same_row c.row x.row) refl (signed_with row c xs)
  where
    here : (b : Bool) (s : ℤ) → cond b (x.count +ℤ c.count) (pos 0) +ℤ s ≡ (cond b x.count (pos 0) +ℤ s) +ℤ (cond b c.count (pos 0) +ℤ pos 0)
    here true s = omega (arith, ints)
    here false s = omega (arith, ints)

    there : (a s t d : ℤ) → t ≡ s +ℤ d → a +ℤ t ≡ (a +ℤ s) +ℤ d
    there a s t d e = omega (arith, ints, e)

    by : (b : Bool) → same_row c.row x.row ≡ b
        → signed_count row (with_change c xs) ≡ signed_count row xs +ℤ signed_count row (c ∷ [])
        → signed_count row (cond b (more x c.count ∷ xs) (x ∷ with_change c xs)) ≡ signed_count row (x ∷ xs) +ℤ signed_count row (c ∷ [])
    by true e later =
        here (same_row row x.row) (signed_count row xs)
        ∙ ap (λ r. signed_count row (x ∷ xs) +ℤ (cond (same_row row r) c.count (pos 0) +ℤ pos 0)) (sym ((rows_exact c.row x.row).0 e))
    by false e later = there (cond (same_row row x.row) x.count (pos 0)) (signed_count row xs) (signed_count row (with_change c xs))
        (signed_count row (c ∷ [])) later

rows_with : (c : Signed) (xs : List Signed)
    → cond (list_any (same_row c.row) (rows_changed xs)) (rows_changed xs) (rows_changed xs ++ c.row ∷ []) ≡ rows_changed (with_change c xs)
rows_with c [] = refl
rows_with c (x ∷ xs) = by (same_row c.row x.row) (list_any (same_row c.row) (rows_changed xs)) (rows_with c xs)
  where
    by : (b a : Bool) → cond a (rows_changed xs) (rows_changed xs ++ c.row ∷ []) ≡ rows_changed (with_change c xs)
        → cond (b || a) (rows_changed (x ∷ xs)) (rows_changed (x ∷ xs) ++ c.row ∷ []) ≡ rows_changed (cond b (more x c.count ∷ xs) (x ∷ with_change c xs))
    by true a e = refl
    by false true e = ap (λ l. x.row ∷ l) e
    by false false e = ap (λ l. x.row ∷ l) e

-- If no row had two changes, no row has two now.
pub once_with : (c : Signed) (xs : List Signed) → IsDistinct same_row (rows_changed xs) → IsDistinct same_row (rows_changed (with_change c xs))
once_with c xs once = subst (IsDistinct same_row) (rows_with c xs) (by (list_any (same_row c.row) (rows_changed xs)) refl)
  where
    by : (a : Bool) → list_any (same_row c.row) (rows_changed xs) ≡ a → IsDistinct same_row (cond a (rows_changed xs) (rows_changed xs ++ c.row ∷ []))
    by true e = once
    by false e = IsDistinct-push same_row_equiv (rows_changed xs) c.row once e

-- A property of all numbers that addition keeps holds for all numbers afterwards.
pub all_with : (P : ℤ → Type 0) (c : Signed) (xs : List Signed) → ((a : ℤ) → P a → P (a +ℤ c.count)) → P c.count → All (λ (x : Signed). P x.count) xs
    → All (λ (x : Signed). P x.count) (with_change c xs)
all_with P c [] grows new all = All-cons (λ (x : Signed). P x.count) c [] new all
all_with P c (x ∷ xs) grows new all = by (same_row c.row x.row) (λ rest. all_with P c xs grows new rest)
  where
    first : P x.count
    first = All-head (λ (y : Signed). P y.count) x xs all

    rest : All (λ (y : Signed). P y.count) xs
    rest = All-tail (λ (y : Signed). P y.count) x xs all

    by : (b : Bool) → (All (λ (y : Signed). P y.count) xs → All (λ (y : Signed). P y.count) (with_change c xs))
        → All (λ (y : Signed). P y.count) (cond b (more x c.count ∷ xs) (x ∷ with_change c xs))
    by true later = All-cons (λ (y : Signed). P y.count) (more x c.count) xs (grows x.count first) rest
    by false later = All-cons (λ (y : Signed). P y.count) x (with_change c xs) first (later rest)
