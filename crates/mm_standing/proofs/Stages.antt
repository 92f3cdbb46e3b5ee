-- The stages in which changes are applied, from the last to the first.
use Rattle.std.proofs.Common.{◌≡◌, ℕ, zero, suc, ℤ, pos, ◌+ℤ◌, neg_ℤ, ◌≤ℤ◌, ◌⊎◌, inl, inr, Bool, true, false, cond, List, [], ◌∷◌, ◌++◌, length, drop, refl}
use Rattle.std.proofs.Common.{sym, ap, ◌∙◌, subst, arith}
use Rattle.std.specs.Prelude.{◌==◌}
use Rattle.std.proofs.lemmas.Int.{ints}
use Rattle.std.proofs.Math.Seq.{drop-length, drop-nil}
use Rattle.mm_value.specs.Equality.{same_row}
use Rattle.mm_value.specs.declared.values.Value.{Value}
use Rattle.mm_multiset.specs.Counts.{Counts, count_in, total_of}
use Rattle.mm_standing.specs.Bags.{AddedTo, CanAdd, IsWithin, count_with, entries_at, list_change, opposite, row_change, sum_over, total_with}
use Rattle.mm_standing.specs.declared.change.RowChange.{RowChange}
use Rattle.mm_schema.specs.Rows.{most_rows}

-- ---- lists

pub drop_found : {X : Type 0} (k : ℕ) (xs : List X) (x : X) → (j : ℕ) × (drop j (xs ++ x ∷ []) ≡ drop k xs ++ x ∷ [])
drop_found zero xs x = (zero, refl)
drop_found (suc k) [] x = (zero, refl)
drop_found (suc k) (y ∷ ys) x = let r = drop_found k ys x in (suc r.0, r.1)

pub drop_cases : {X : Type 0} (k : ℕ) (xs : List X) (x : X) → (drop k (xs ++ x ∷ []) ≡ drop k xs ++ x ∷ []) ⊎ (drop k (xs ++ x ∷ []) ≡ [])
drop_cases zero xs x = inl refl
drop_cases (suc k) [] x = inr (drop-nil k)
drop_cases (suc k) (y ∷ ys) x = drop_cases k ys x

-- ---- sums

one : (a : ℤ) → a +ℤ pos 0 ≡ pos 0 +ℤ a
one a = omega (arith, ints)

apart : (a b c : ℤ) → a +ℤ (b +ℤ c) ≡ (a +ℤ b) +ℤ c
apart a b c = omega (arith, ints)

pub sum_push : (f : RowChange → ℤ) (cs : List RowChange) (c : RowChange) → sum_over f (cs ++ c ∷ []) ≡ sum_over f cs +ℤ f c
sum_push f [] c = one (f c)
sum_push f (x ∷ cs) c = ap (λ s. f x +ℤ s) (sum_push f cs c) ∙ apart (f x) (sum_over f cs) (f c)

shift : (n1 n0 s d t : ℤ) → n1 ≡ n0 +ℤ d → t ≡ s +ℤ d → n1 +ℤ s ≡ n0 +ℤ t
shift n1 n0 s d t p q = omega (arith, ints)

first : (n1 n0 s d : ℤ) → n1 ≡ n0 +ℤ d → n1 +ℤ s ≡ n0 +ℤ (d +ℤ s)
first n1 n0 s d p = omega (arith, ints)

turn : (n1 n0 s d u t : ℤ) → n1 ≡ n0 +ℤ d → u ≡ neg_ℤ d → t ≡ s +ℤ u → n1 +ℤ t ≡ n0 +ℤ s
turn n1 n0 s d u t p q r = omega (arith, ints)

again : (n1 n0 d u : ℤ) → n1 ≡ n0 +ℤ u → u ≡ neg_ℤ d → n1 +ℤ (d +ℤ pos 0) ≡ n0 +ℤ pos 0
again n1 n0 d u p q = omega (arith, ints)

neg_row : (a b : Bool) (n : ℤ) → cond a (cond b (neg_ℤ n) (pos 0) +ℤ pos 0) (pos 0) ≡ neg_ℤ (cond a (cond b n (pos 0) +ℤ pos 0) (pos 0))
neg_row true true n = omega (arith, ints)
neg_row true false n = omega (arith, ints)
neg_row false b n = omega (arith, ints)

neg_list : (a : Bool) (n : ℤ) → cond a (neg_ℤ n) (pos 0) ≡ neg_ℤ (cond a n (pos 0))
neg_list true n = refl
neg_list false n = omega (arith, ints)

-- ---- stages

pub nothing_left : (bags : List Counts) (cs : List RowChange) → CanAdd bags cs → IsWithin bags []
nothing_left bags cs can = subst (IsWithin bags) (drop-length cs) (can (length cs))

pub nothing_to_add : (bags : List Counts) → IsWithin bags [] → CanAdd bags []
nothing_to_add bags w k = subst (IsWithin bags) (sym (drop-nil k)) w

pub last_one : (bags : List Counts) (cs : List RowChange) (c : RowChange) → CanAdd bags (cs ++ c ∷ []) → IsWithin bags (c ∷ [])
last_one bags cs c can =
    let r = drop_found (length cs) cs c in
    subst (IsWithin bags) (r.1 ∙ ap (λ l. l ++ c ∷ []) (drop-length cs)) (can r.0)

module _ (c : RowChange) (old new : List Counts) (adds : AddedTo c old new) where
  -- An applied change is one less to apply.
  pub count_moved : (rest : List RowChange) (list : ℕ) (row : List Value) → count_with new rest list row ≡ count_with old (rest ++ c ∷ []) list row
  count_moved rest list row =
      shift (pos (count_in row (entries_at new list))) (pos (count_in row (entries_at old list))) (sum_over (row_change list row) rest) (row_change list row c)
      (sum_over (row_change list row) (rest ++ c ∷ [])) (adds.counts list row) (sum_push (row_change list row) rest c)

  total_moved : (rest : List RowChange) (list : ℕ) → total_with new rest list ≡ total_with old (rest ++ c ∷ []) list
  total_moved rest list =
      shift (pos (total_of (entries_at new list))) (pos (total_of (entries_at old list))) (sum_over (list_change list) rest) (list_change list c)
      (sum_over (list_change list) (rest ++ c ∷ [])) (adds.totals list) (sum_push (list_change list) rest c)

  within_moved : (rest : List RowChange) → IsWithin old (rest ++ c ∷ []) → IsWithin new rest
  within_moved rest w = record {
    counts = λ list row. subst (λ z. pos 0 ≤ℤ z) (sym (count_moved rest list row)) (w.counts list row);
    totals = λ list. subst (λ z. z ≤ℤ pos most_rows) (sym (total_moved rest list)) (w.totals list);
  }

  pub can_still : (cs : List RowChange) → CanAdd old (cs ++ c ∷ []) → CanAdd new cs
  can_still cs can k =
      let r = drop_found k cs c in
      within_moved (drop k cs) (subst (IsWithin old) r.1 (can r.0))

  -- The first of some changes is applied.
  pub count_first : (rest : List RowChange) (list : ℕ) (row : List Value) → count_with new rest list row ≡ count_with old (c ∷ rest) list row
  count_first rest list row =
      first (pos (count_in row (entries_at new list))) (pos (count_in row (entries_at old list))) (sum_over (row_change list row) rest)
      (row_change list row c) (adds.counts list row)

  total_first : (rest : List RowChange) (list : ℕ) → total_with new rest list ≡ total_with old (c ∷ rest) list
  total_first rest list =
      first (pos (total_of (entries_at new list))) (pos (total_of (entries_at old list))) (sum_over (list_change list) rest)
      (list_change list c) (adds.totals list)

  pub within_first : (rest : List RowChange) → IsWithin old (c ∷ rest) → IsWithin new rest
  within_first rest w = record {
    counts = λ list row. subst (λ z. pos 0 ≤ℤ z) (sym (count_first rest list row)) (w.counts list row);
    totals = λ list. subst (λ z. z ≤ℤ pos most_rows) (sym (total_first rest list)) (w.totals list);
  }

  -- An applied change can be undone, and then everything is as before.
  pub count_back : (rest : List RowChange) (list : ℕ) (row : List Value) → count_with new (rest ++ opposite c ∷ []) list row ≡ count_with old rest list row
  count_back rest list row =
      turn (pos (count_in row (entries_at new list))) (pos (count_in row (entries_at old list))) (sum_over (row_change list row) rest) (row_change list row c)
      (row_change list row (opposite c)) (sum_over (row_change list row) (rest ++ opposite c ∷ [])) (adds.counts list row)
      (neg_row (c.list == list) (same_row row c.change.row) c.change.count) (sum_push (row_change list row) rest (opposite c))

  total_back : (rest : List RowChange) (list : ℕ) → total_with new (rest ++ opposite c ∷ []) list ≡ total_with old rest list
  total_back rest list =
      turn (pos (total_of (entries_at new list))) (pos (total_of (entries_at old list))) (sum_over (list_change list) rest) (list_change list c)
      (list_change list (opposite c)) (sum_over (list_change list) (rest ++ opposite c ∷ [])) (adds.totals list)
      (neg_list (c.list == list) c.change.count) (sum_push (list_change list) rest (opposite c))

  within_back : (rest : List RowChange) → IsWithin old rest → IsWithin new (rest ++ opposite c ∷ [])
  within_back rest w = record {
    counts = λ list row. subst (λ z. pos 0 ≤ℤ z) (sym (count_back rest list row)) (w.counts list row);
    totals = λ list. subst (λ z. z ≤ℤ pos most_rows) (sym (total_back rest list)) (w.totals list);
  }

  pub can_undo : (log : List RowChange) → IsWithin new [] → CanAdd old log → CanAdd new (log ++ opposite c ∷ [])
  can_undo log now can k = by (drop_cases k log (opposite c))
    where
      by : ((drop k (log ++ opposite c ∷ []) ≡ drop k log ++ opposite c ∷ []) ⊎ (drop k (log ++ opposite c ∷ []) ≡ []))
          → IsWithin new (drop k (log ++ opposite c ∷ []))
      by (inl e) = subst (IsWithin new) (sym e) (within_back (drop k log) (can k))
      by (inr e) = subst (IsWithin new) (sym e) now

-- A change that was undone can be applied again.
module _ (c : RowChange) (old new : List Counts) (adds : AddedTo (opposite c) old new) where
  count_again : (list : ℕ) (row : List Value) → count_with new (c ∷ []) list row ≡ count_with old [] list row
  count_again list row =
      again (pos (count_in row (entries_at new list))) (pos (count_in row (entries_at old list))) (row_change list row c) (row_change list row (opposite c))
      (adds.counts list row) (neg_row (c.list == list) (same_row row c.change.row) c.change.count)

  total_again : (list : ℕ) → total_with new (c ∷ []) list ≡ total_with old [] list
  total_again list =
      again (pos (total_of (entries_at new list))) (pos (total_of (entries_at old list))) (list_change list c) (list_change list (opposite c))
      (adds.totals list) (neg_list (c.list == list) c.change.count)

  pub within_again : IsWithin old [] → IsWithin new (c ∷ [])
  within_again w = record {
    counts = λ list row. subst (λ z. pos 0 ≤ℤ z) (sym (count_again list row)) (w.counts list row);
    totals = λ list. subst (λ z. z ≤ℤ pos most_rows) (sym (total_again list)) (w.totals list);
  }

-- If no count and no total changes, the same changes can be applied.
module _ (old new : List Counts) (counts : (list : ℕ) (row : List Value) → count_in row (entries_at new list) ≡ count_in row (entries_at old list))
    (totals : (list : ℕ) → total_of (entries_at new list) ≡ total_of (entries_at old list)) where
  pub count_still : (cs : List RowChange) (list : ℕ) (row : List Value) → count_with new cs list row ≡ count_with old cs list row
  count_still cs list row = ap (λ n. pos n +ℤ sum_over (row_change list row) cs) (counts list row)

  pub within_still : (cs : List RowChange) → IsWithin old cs → IsWithin new cs
  within_still cs w = record {
    counts = λ list row. subst (λ z. pos 0 ≤ℤ z) (sym (count_still cs list row)) (w.counts list row);
    totals = λ list. subst (λ n. (pos n +ℤ sum_over (list_change list) cs) ≤ℤ pos most_rows) (sym (totals list)) (w.totals list);
  }
