-- The rows of a list other than one row.
use Rattle.std.proofs.Common.{◌≡◌, ℕ, suc, ◌+◌, Bool, true, false, cond, not, List, [], ◌∷◌, length, refl, sym, ap, ◌∙◌, arith}
use Rattle.std.specs.List.{filter}
use Rattle.std.proofs.lemmas.List.Sums.{sum_by-cons}
use Rattle.mm_value.specs.Equality.{same_row}
use Rattle.mm_value.specs.EqualityLaws.{same_row_equiv}
use Rattle.mm_value.specs.declared.values.Value.{Value}
use Rattle.mm_multiset.specs.Counts.{count_of}

abbrev pub Rows : Type 0
Rows = List (List Value)

-- One for a row that is the same, none for another.
abbrev pub tally : List Value → List Value → ℕ
tally row other = cond (same_row row other) 1 0

-- The rows other than this one.
abbrev pub others : List Value → Rows → Rows
others row rows = filter (λ x. not (same_row row x)) rows

pub length_others : (row : List Value) (rows : Rows) → length rows ≡ count_of row rows + length (others row rows)
length_others row [] = refl
length_others row (x ∷ xs) =
    step (same_row row x) (length xs) (count_of row xs) (others row xs) (length_others row xs)
    ∙ ap (λ n. n + length (others row (x ∷ xs))) (sym (sum_by-cons (tally row) x xs))
  where
    step : (b : Bool) (n c : ℕ) (left : Rows) → n ≡ c + length left → suc n ≡ (cond b 1 0 + c) + length (cond (not b) (x ∷ left) left)
    step true n c left h = omega (arith, h)
    step false n c left h = omega (arith, h)

-- None of the others is this row.
pub none_in_others : (row : List Value) (rows : Rows) → count_of row (others row rows) ≡ 0
none_in_others row [] = refl
none_in_others row (x ∷ xs) = by (same_row row x) refl (none_in_others row xs)
  where
    by : (b : Bool) → same_row row x ≡ b → count_of row (others row xs) ≡ 0 → count_of row (cond (not b) (x ∷ others row xs) (others row xs)) ≡ 0
    by true e h = h
    by false e h = sum_by-cons (tally row) x (others row xs) ∙ (λ i. cond (e i) 1 0 + h i)

-- Another row occurs equally often among the others.
pub count_in_others : (row other : List Value) (rows : Rows) → same_row row other ≡ false → count_of other (others row rows) ≡ count_of other rows
count_in_others row other [] apart = refl
count_in_others row other (x ∷ xs) apart =
    by (same_row row x) refl (count_in_others row other xs apart) ∙ sym (sum_by-cons (tally other) x xs)
  where
    by : (b : Bool) → same_row row x ≡ b → count_of other (others row xs) ≡ count_of other xs
        → count_of other (cond (not b) (x ∷ others row xs) (others row xs)) ≡ tally other x + count_of other xs
    by true e h =
        let differs : same_row other x ≡ false = same_row_equiv.symm other x ∙ sym (same_row_equiv.congr row x other e) ∙ apart in
        let nothing : ◌≡◌ {A = ℕ} (tally other x) 0 = ap {B = ℕ} (λ b. cond b 1 0) differs in
        omega (arith, h, nothing)
    by false e h = sum_by-cons (tally other) x (others row xs) ∙ ap (λ n. tally other x + n) h
