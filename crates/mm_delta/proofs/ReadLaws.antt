-- The number of reads, case by case.
use Rattle.std.proofs.Common.{◌≡◌, ℕ, ◌+◌, ℤ, Bool, true, false, cond, Some, List, [], ◌∷◌, ◌++◌, length, set, refl, ap, ◌∙◌, arith, length-append}
use Rattle.std.specs.Prelude.{FitsSigned}
use Rattle.std.specs.Int.{w64}
use Rattle.std.specs.List.{All, sum_by}
use Rattle.std.proofs.lemmas.List.Elements.{All-head, All-tail, All-weaker}
use Rattle.std.proofs.lemmas.List.Sums.{sum_by-cons}
use Rattle.mm_value.specs.Storable.{AreStorable}
use Rattle.mm_value.specs.declared.values.Value.TheVariants.{Int}
use Rattle.mm_query.specs.Queries.{Partial, none_fails}
use Rattle.mm_query.specs.declared.atom.Atom.{Atom}
use Rattle.mm_query.specs.declared.bound_query.FieldPlace.{FieldPlace}
use Rattle.mm_delta.specs.Candidates.{candidates, having, required}
use Rattle.mm_delta.proofs.Found.{Row, Rows}
use Rattle.mm_delta.proofs.PastRange.{apart}

-- ---- sums

pub sum_of_zeros : {X : Type 0} (f : X → ℕ) (xs : List X) → All (λ x. f x ≡ 0) xs → sum_by f xs ≡ 0
sum_of_zeros f [] h = refl
sum_of_zeros f (x ∷ xs) h =
    omega (arith, sum_by-cons f x xs, All-head (λ x. f x ≡ 0) x xs h, sum_of_zeros f xs (All-tail (λ x. f x ≡ 0) x xs h))

sum_of_ones : {X : Type 0} (f : X → ℕ) (xs : List X) → All (λ x. f x ≡ 1) xs → sum_by f xs ≡ length xs
sum_of_ones f [] h = refl
sum_of_ones f (x ∷ xs) h =
    omega (arith, sum_by-cons f x xs, All-head (λ x. f x ≡ 1) x xs h, sum_of_ones f xs (All-tail (λ x. f x ≡ 1) x xs h))

-- ---- edited rows

-- Rows that are left out count one each.
pub left_out_counted : (skipped : Row → Bool) (reads : Row → ℕ) (gone come : Rows) → All (λ row. skipped row ≡ true) (gone ++ come)
    → sum_by (λ row. 1 + cond (skipped row) 0 (reads row)) (gone ++ come) ≡ length gone + length come
left_out_counted skipped reads gone come all =
    sum_of_ones count (gone ++ come) (All-weaker (λ row. skipped row ≡ true) (λ row. count row ≡ 1) one (gone ++ come) all)
    ∙ length-append gone come
  where
    count : Row → ℕ
    count row = 1 + cond (skipped row) 0 (reads row)

    one : (row : Row) → skipped row ≡ true → count row ≡ 1
    one row h = ap (λ b. 1 + cond b 0 (reads row)) h

-- ---- candidates

module _ (indexed : ℕ → ℕ → Bool) (atoms : List (Atom FieldPlace)) (before rows : ℕ → Rows) where
  abbrev further : ℕ → List ℕ → Partial → ℕ
  further place places m =
      length (having (required (indexed place) atoms m place) (before place))
      + sum_by (λ x. candidates indexed atoms before rows places (set m place (Some x))) (rows place)

  pub none_where_one_fails : (places : List ℕ) (m : Partial) → none_fails atoms m ≡ false → candidates indexed atoms before rows places m ≡ 0
  none_where_one_fails [] m fails = refl
  none_where_one_fails (place ∷ places) m fails = ap (λ b. cond b (further place places m) 0) fails

  pub those_of_one_place : (place : ℕ) (m : Partial) → none_fails atoms m ≡ true
      → candidates indexed atoms before rows (place ∷ []) m ≡ length (having (required (indexed place) atoms m place) (before place))
  those_of_one_place place m fit =
      ap (λ b. cond b (further place [] m) 0) fit
      ∙ (let none : sum_by (λ (x : Row). 0) (rows place) ≡ 0 = sum_of_zeros (λ (x : Row). 0) (rows place) (λ i d within. refl) in
      omega (arith, none))

-- ---- numbers past 64 bits

pub none_past : (column : ℕ) (number : ℤ) (rows : Rows) → ¬ FitsSigned w64 number → All AreStorable rows → having (Some (column, Int number)) rows ≡ []
none_past column number [] past all = refl
none_past column number (row ∷ rows) past all =
    ap (λ b. cond b (row ∷ having (Some (column, Int number)) rows) (having (Some (column, Int number)) rows))
    (apart column row number (All-head AreStorable row rows all) past)
    ∙ none_past column number rows past (All-tail AreStorable row rows all)
