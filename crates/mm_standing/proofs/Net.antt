-- Sums of changes of which each row has at most one.
use Rattle.std.proofs.Common.{◌≡◌, ℕ, zero, suc, ℤ, pos, ◌+◌, ◌+ℤ◌, ◌-ℤ◌, ◌≤ℤ◌, ◌⊎◌, inl, inr, Bool, true, false, cond, List, [], ◌∷◌, drop, length, map}
use Rattle.std.proofs.Common.{refl, sym, ap, ◌∙◌, subst, arith}
use Rattle.std.specs.List.{IsDistinct}
use Rattle.std.proofs.lemmas.Int.{ints}
use Rattle.std.proofs.lemmas.List.Sorted.{length_permutation}
use Rattle.std.proofs.lemmas.Map.Keys.{IsDistinct-head, IsDistinct-tail}
use Rattle.mm_value.specs.Equality.{same_row}
use Rattle.mm_value.specs.EqualityLaws.{same_row_equiv}
use Rattle.mm_value.specs.declared.values.Value.{Value}
use Rattle.mm_value.proofs.SameRows.{rows_exact}
use Rattle.mm_multiset.specs.Counts.{Entries, IsOnce, count_in, count_of, signed_count, total_of}
use Rattle.mm_multiset.specs.declared.signed.Signed.{Signed}
use Rattle.mm_delta.proofs.Reordering.{permutation_from_counts}
use Rattle.mm_standing.specs.Bags.{sum_over}
use Rattle.mm_standing.specs.Queries.{IsBagOf}
use Rattle.mm_standing.proofs.Others.{Rows, count_in_others, length_others, none_in_others, others}
use Rattle.mm_standing.proofs.Totals.{total_is_length}
use Rattle.mm_multiset.proofs.Passing.{unchanged}

abbrev pub rows_in : List Signed → Rows
rows_in changes = map (λ (change : Signed). change.row) changes

-- Each row has at most one of the changes.
abbrev pub IsOnceEach : List Signed → Type 0
IsOnceEach changes = IsDistinct same_row (rows_in changes)

-- The sum of the changes.
abbrev pub sum_of : List Signed → ℤ
sum_of changes = sum_over (λ (change : Signed). change.count) changes

abbrev pub pick : Bool → ℤ → ℤ
pick b n = cond b n (pos 0)

module _ (c : Signed) (cs : List Signed) (once : IsOnceEach (c ∷ cs)) where
  pub once_tail : IsOnceEach cs
  once_tail = IsDistinct-tail same_row c.row (rows_in cs) once

  -- The row of the first change has no other change.
  first_alone : signed_count c.row cs ≡ pos 0
  first_alone = unchanged c.row cs (IsDistinct-head same_row c.row (rows_in cs) once)

  pub first_is : signed_count c.row (c ∷ cs) ≡ c.count
  first_is = only (pick (same_row c.row c.row) c.count) (signed_count c.row cs) c.count (ap (λ b. pick b c.count) (same_row_equiv.refl c.row)) first_alone
    where
      only : (a b n : ℤ) → a ≡ n → b ≡ pos 0 → a +ℤ b ≡ n
      only a b n p q = omega (arith, ints)

  pub same_alone : (row : List Value) → same_row c.row row ≡ true → signed_count row cs ≡ pos 0
  same_alone row is = subst (λ r. signed_count r cs ≡ pos 0) ((rows_exact c.row row).0 is) first_alone

  pub others_in_rest : (row : List Value) → same_row c.row row ≡ false → signed_count row cs ≡ signed_count row (c ∷ cs)
  others_in_rest row apart =
      rest (pick (same_row row c.row) c.count) (signed_count row cs) (ap (λ b. pick b c.count) (same_row_equiv.symm row c.row ∙ apart))
    where
      rest : (a b : ℤ) → a ≡ pos 0 → b ≡ a +ℤ b
      rest a b p = omega (arith, ints)

-- After some of the changes a row has the same change or none.
pub count_dropped : (row : List Value) (k : ℕ) (changes : List Signed) → IsOnceEach changes
    → (signed_count row (drop k changes) ≡ pos 0) ⊎ (signed_count row (drop k changes) ≡ signed_count row changes)
count_dropped row zero changes once = inr refl
count_dropped row (suc k) [] once = inl refl
count_dropped row (suc k) (c ∷ cs) once = by (same_row c.row row) refl (count_dropped row k cs (once_tail c cs once))
  where
    by : (b : Bool) → same_row c.row row ≡ b → (signed_count row (drop k cs) ≡ pos 0) ⊎ (signed_count row (drop k cs) ≡ signed_count row cs)
        → (signed_count row (drop k cs) ≡ pos 0) ⊎ (signed_count row (drop k cs) ≡ signed_count row (c ∷ cs))
    by b e (inl h) = inl h
    by true e (inr h) = inl (h ∙ same_alone c cs once row e)
    by false e (inr h) = inr (h ∙ others_in_rest c cs once row e)

-- ---- sums

-- If the change of each row is the difference of its counts, the sum of the changes is the difference of the lengths.
pub sum_is_difference : (changes : List Signed) (after before : Rows) → IsOnceEach changes
    → ((row : List Value) → signed_count row changes ≡ pos (count_of row after) -ℤ pos (count_of row before))
    → sum_of changes ≡ pos (length after) -ℤ pos (length before)
sum_is_difference [] after before once h =
    level (length after) (length before) (sym (length_permutation after before
    (permutation_from_counts after before (λ row. equal (count_of row after) (count_of row before) (h row)))))
  where
    equal : (a b : ℕ) → pos 0 ≡ pos a -ℤ pos b → a ≡ b
    equal a b e = omega (arith, ints)

    level : (a b : ℕ) → a ≡ b → pos 0 ≡ pos a -ℤ pos b
    level a b e = omega (arith, ints)
sum_is_difference (c ∷ cs) after before once h =
    both c.count (sum_of cs) (length after) (length before) (count_of c.row after) (count_of c.row before) (length (others c.row after))
    (length (others c.row before))
    (sym (first_is c cs once) ∙ h c.row)
    (sum_is_difference cs (others c.row after) (others c.row before) (once_tail c cs once) left)
    (length_others c.row after) (length_others c.row before)
  where
    both : (n s : ℤ) (la lb ca cb ra rb : ℕ) → n ≡ pos ca -ℤ pos cb → s ≡ pos ra -ℤ pos rb → la ≡ ca + ra → lb ≡ cb + rb → n +ℤ s ≡ pos la -ℤ pos lb
    both n s la lb ca cb ra rb p q r t = omega (arith, ints)

    none : (z : ℤ) (a b : ℕ) → z ≡ pos 0 → a ≡ 0 → b ≡ 0 → z ≡ pos a -ℤ pos b
    none z a b p q r = omega (arith, ints)

    left : (row : List Value) → signed_count row cs ≡ pos (count_of row (others c.row after)) -ℤ pos (count_of row (others c.row before))
    left row = by (same_row c.row row) refl
      where
        by : (b : Bool) → same_row c.row row ≡ b → signed_count row cs ≡ pos (count_of row (others c.row after)) -ℤ pos (count_of row (others c.row before))
        by true e =
            let same : c.row ≡ row = (rows_exact c.row row).0 e in
            none (signed_count row cs) (count_of row (others c.row after)) (count_of row (others c.row before)) (same_alone c cs once row e)
            (subst (λ r. count_of r (others c.row after) ≡ 0) same (none_in_others c.row after))
            (subst (λ r. count_of r (others c.row before) ≡ 0) same (none_in_others c.row before))
        by false e =
            others_in_rest c cs once row e ∙ h row
            ∙ (λ i. pos (sym (count_in_others c.row row after e) i) -ℤ pos (sym (count_in_others c.row row before e) i))

-- ---- the changes of one list

module _ (entries : Entries) (changes : List Signed) (after before : Rows) (once : IsOnceEach changes)
    (keys : IsOnce entries) (bag : IsBagOf entries before)
    (change : (row : List Value) → signed_count row changes ≡ pos (count_of row after) -ℤ pos (count_of row before)) where
  -- The counts after all changes.
  pub counts_after : (row : List Value) → pos (count_in row entries) +ℤ signed_count row changes ≡ pos (count_of row after)
  counts_after row = new (count_in row entries) (count_of row before) (count_of row after) (signed_count row changes) (bag row) (change row)
    where
      new : (n b a : ℕ) (z : ℤ) → n ≡ b → z ≡ pos a -ℤ pos b → pos n +ℤ z ≡ pos a
      new n b a z p q = omega (arith, ints)

  -- The number of rows after all changes.
  pub total_after : pos (total_of entries) +ℤ sum_of changes ≡ pos (length after)
  total_after =
      new (total_of entries) (length before) (length after) (sum_of changes) (total_is_length entries before keys bag)
      (sum_is_difference changes after before once change)
    where
      new : (n b a : ℕ) (z : ℤ) → n ≡ b → z ≡ pos a -ℤ pos b → pos n +ℤ z ≡ pos a
      new n b a z p q = omega (arith, ints)

  -- After some of the changes no count is below 0.
  pub counts_behind : (k : ℕ) (row : List Value) → pos 0 ≤ℤ (pos (count_in row entries) +ℤ signed_count row (drop k changes))
  counts_behind k row = by (count_dropped row k changes once)
    where
      old : (n : ℕ) (z : ℤ) → z ≡ pos 0 → pos 0 ≤ℤ (pos n +ℤ z)
      old n z p = omega (arith, ints)

      new : (n a : ℕ) (z y : ℤ) → z ≡ y → pos n +ℤ y ≡ pos a → pos 0 ≤ℤ (pos n +ℤ z)
      new n a z y p q = omega (arith, ints)

      by : ((signed_count row (drop k changes) ≡ pos 0) ⊎ (signed_count row (drop k changes) ≡ signed_count row changes))
          → pos 0 ≤ℤ (pos (count_in row entries) +ℤ signed_count row (drop k changes))
      by (inl e) = old (count_in row entries) (signed_count row (drop k changes)) e
      by (inr e) = new (count_in row entries) (count_of row after) (signed_count row (drop k changes)) (signed_count row changes) e (counts_after row)
