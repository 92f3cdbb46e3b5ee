-- Lists in which each row occurs equally often have the same rows, possibly in another order.
use Rattle.std.proofs.Common.{◌≡◌, ℕ, zero, suc, ◌+◌, ◌<◌, Bool, true, false, cond, List, [], ◌∷◌, get_or, length, refl, ap, arith}
use Rattle.std.specs.List.{remove}
use Rattle.std.specs.List.Sorted.{IsPermutation}
use Rattle.std.proofs.lemmas.List.Sums.{sum_by-cons, sum_by-remove}
use Rattle.std.proofs.lemmas.List.Sorted.{IsPermutation-cons, IsPermutation-refl, IsPermutation-remove, IsPermutation-sym, IsPermutation-trans}
use Rattle.mm_value.specs.Equality.{same_row}
use Rattle.mm_value.specs.EqualityLaws.{same_row_equiv}
use Rattle.mm_value.specs.declared.values.Value.{Value}
use Rattle.mm_value.proofs.SameRows.{rows_exact}
use Rattle.mm_multiset.specs.Counts.{count_of}

abbrev Rows : Type 0
Rows = List (List Value)

-- one for a row that is the same, none for another
abbrev tally : List Value → List Value → ℕ
tally row other = cond (same_row row other) 1 0

-- a counted row is at some place
pub place_of : (row : List Value) (rows : Rows) → 0 < count_of row rows → (i : ℕ) × (i < length rows) × (same_row row (get_or rows i row) ≡ true)
place_of row [] h = absurd (omega arith)
place_of row (r ∷ rows) h = by (same_row row r) refl (omega (arith, h, sum_by-cons (tally row) r rows)) (place_of row rows)
  where
    by : (b : Bool) → same_row row r ≡ b → 0 < cond (same_row row r) 1 0 + count_of row rows
        → (0 < count_of row rows → (i : ℕ) × (i < length rows) × (same_row row (get_or rows i row) ≡ true))
        → (i : ℕ) × (i < suc (length rows)) × (same_row row (get_or (r ∷ rows) i row) ≡ true)
    by true e n f = (zero, omega arith, e)
    by false e n f =
        let none : ◌≡◌ {A = ℕ} (cond (same_row row r) 1 0) 0 = ap {B = ℕ} (λ b. cond b 1 0) e in
        let later = f (omega (arith, n, none)) in
        (suc later.0, omega (arith, later.1), later.2)

one_itself : (row : List Value) → tally row row ≡ 1
one_itself row = ap (λ b. cond b 1 0) (same_row_equiv.refl row)

pub permutation_from_counts : (xs ys : Rows) → ((row : List Value) → count_of row xs ≡ count_of row ys) → IsPermutation xs ys
permutation_from_counts [] [] h = IsPermutation-refl []
permutation_from_counts [] (y ∷ ys) h = absurd (omega (arith, h y, sum_by-cons (tally y) y ys, one_itself y))
permutation_from_counts (x ∷ xs) ys h =
    let place = place_of x ys (omega (arith, h x, sum_by-cons (tally x) x xs, one_itself x)) in
    let there : x ≡ get_or ys place.0 x = (rows_exact x (get_or ys place.0 x)).0 place.2 in
    IsPermutation-trans (x ∷ xs) (x ∷ remove ys place.0) ys
    (IsPermutation-cons x xs (remove ys place.0) (permutation_from_counts xs (remove ys place.0)
    (λ row. omega (arith, h row, sum_by-cons (tally row) x xs, sum_by-remove (tally row) ys place.0 x place.1, ap {B = ℕ} (tally row) there))))
    (IsPermutation-sym ys (x ∷ remove ys place.0) (IsPermutation-remove ys place.0 x place.1 there))
