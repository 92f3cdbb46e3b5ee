-- Entries in another order, with one more entry, or with another count.
use Rattle.std.proofs.Common.{◌≡◌, ℕ, ◌+◌, ℤ, pos, ◌+ℤ◌, Bool, true, false, true≢false, cond}
use Rattle.std.proofs.Common.{◌||◌, is_some, List, [], ◌∷◌, Option, Some, refl, sym, ap, ◌∙◌, arith}
use Rattle.std.specs.Prelude.{IsPermutation}
use Rattle.std.proofs.lemmas.Int.{ints}
use Rattle.std.proofs.lemmas.List.Sums.{sum_by-cons}
use Rattle.std.proofs.lemmas.List.Sorted.{IsPermutation-map, IsPermutation-sym, list_any-IsPermutation, sum_by-IsPermutation}
use Rattle.std.proofs.lemmas.Map.{lookup-none}
use Rattle.std.proofs.lemmas.Map.Entries.{none_past_head, sum_by_values_permutation}
use Rattle.std.proofs.lemmas.Map.Keys.{IsDistinct-IsPermutation, IsDistinct-cons, IsDistinct-head, IsDistinct-tail}
use Rattle.std.specs.List.{AllByRecursion, list_any, sum_by}
use Rattle.std.specs.Map.{keys_of, values_of, lookup}
use Rattle.std.specs.Option.{unwrap_or}
use Rattle.mm_value.specs.Equality.{same_row}
use Rattle.mm_value.specs.EqualityLaws.{same_row_equiv}
use Rattle.mm_value.specs.declared.values.Value.{Value}
use Rattle.mm_multiset.specs.Counts.{Adds, Entries, IsOnce, count_in, has_entry, total_of}
use Rattle.mm_multiset.proofs.Undoing.{entry_in_keys}

-- ---- in another order

pub once_moved : (es fs : Entries) → IsPermutation es fs → IsOnce es → IsOnce fs
once_moved es fs moved once =
    IsDistinct-IsPermutation same_row same_row_equiv.symm (keys_of es) (keys_of fs) (IsPermutation-map (λ (e : List Value × ℕ). e.0) es fs moved) once

pub total_moved : (es fs : Entries) → IsPermutation es fs → total_of fs ≡ total_of es
total_moved es fs moved = sum_by_values_permutation (λ x. x) es fs moved

pub has_moved : (row : List Value) (es fs : Entries) → IsPermutation es fs → has_entry row es ≡ has_entry row fs
has_moved row es fs moved =
    entry_in_keys row es
    ∙ (list_any-IsPermutation (same_row row) (keys_of es) (keys_of fs) (IsPermutation-map (λ (e : List Value × ℕ). e.0) es fs moved)
    ∙ sym (entry_in_keys row fs))

-- the part of the row's count from an entry
abbrev part : List Value → List Value × ℕ → ℕ
part row e = cond (same_row row e.0) e.1 0

pub count_cons : (row : List Value) (e : List Value × ℕ) (es : Entries) → IsOnce (e ∷ es) → count_in row (e ∷ es) ≡ part row e + count_in row es
count_cons row e es once = by (same_row row e.0) refl
  where
    by : (b : Bool) → same_row row e.0 ≡ b → unwrap_or (cond b (Some e.1) (lookup (same_row row) es)) 0 ≡ cond b e.1 0 + count_in row es
    by true is =
        let none : count_in row es ≡ 0 = ap (λ o. unwrap_or o 0) (lookup-none (same_row row) es (none_past_head same_row_equiv row e es once is)) in
        omega (arith, none)
    by false is = omega arith

count_sum : (row : List Value) (es : Entries) → IsOnce es → count_in row es ≡ sum_by (part row) es
count_sum row [] once = refl
count_sum row (e ∷ es) once =
    count_cons row e es once
    ∙ (ap (λ n. part row e + n) (count_sum row es (IsDistinct-tail same_row e.0 (keys_of es) once)) ∙ sym (sum_by-cons (part row) e es))

pub count_moved : (row : List Value) (es fs : Entries) → IsPermutation es fs → IsOnce es → count_in row es ≡ count_in row fs
count_moved row es fs moved once =
    count_sum row es once
    ∙ (sym (sum_by-IsPermutation (part row) es fs moved) ∙ sym (count_sum row fs (once_moved es fs moved once)))

-- ---- one entry first

total_cons : (e : List Value × ℕ) (es : Entries) → total_of (e ∷ es) ≡ e.1 + total_of es
total_cons e es = sum_by-cons (λ x. x) e.1 (values_of es)

has_cons : (row : List Value) (e : List Value × ℕ) (es : Entries) → has_entry row (e ∷ es) ≡ cond (same_row e.0 row) true (has_entry row es)
has_cons row e es = ap (λ b. is_some (cond b (Some e.1) (lookup (same_row row) es))) (same_row_equiv.symm row e.0)
    ∙ either (same_row e.0 row) (lookup (same_row row) es)
  where
    either : (b : Bool) (o : Option ℕ) → is_some (cond b (Some e.1) o) ≡ cond b true (is_some o)
    either true o = refl
    either false o = refl

none_any : (row : List Value) (ks : List (List Value)) → AllByRecursion (λ k. same_row row k ≡ false) ks → list_any (same_row row) ks ≡ false
none_any row [] all = refl
none_any row (k ∷ ks) all = ap (λ b. b || list_any (same_row row) ks) all.0 ∙ none_any row ks all.1

any_none : (row : List Value) (ks : List (List Value)) → list_any (same_row row) ks ≡ false → AllByRecursion (λ k. same_row row k ≡ false) ks
any_none row [] none = tt
any_none row (k ∷ ks) none = by (same_row row k) refl none (any_none row ks)
  where
    by : (b : Bool) → same_row row k ≡ b → b || list_any (same_row row) ks ≡ false
        → (list_any (same_row row) ks ≡ false → AllByRecursion (λ x. same_row row x ≡ false) ks)
        → (same_row row k ≡ false) × AllByRecursion (λ x. same_row row x ≡ false) ks
    by true is h rest = absurd (true≢false h)
    by false is h rest = (is, rest h)

-- A row without an entry may get one at the front.
pub once_cons : (row : List Value) (count : ℕ) (es : Entries) → IsOnce es → has_entry row es ≡ false → IsOnce ((row, count) ∷ es)
once_cons row count es once none =
    IsDistinct-cons same_row row (keys_of es) (any_none row (keys_of es) (sym (entry_in_keys row es) ∙ none)) once

-- The row of the first entry has no other entry.
pub none_behind : (row : List Value) (count : ℕ) (es : Entries) → IsOnce ((row, count) ∷ es) → has_entry row es ≡ false
none_behind row count es once = entry_in_keys row es ∙ none_any row (keys_of es) (IsDistinct-head same_row row (keys_of es) once)

-- After the removal of one entry, no row has two entries either.
pub once_rest : (row : List Value) (count : ℕ) (old new : Entries) → IsOnce old → IsPermutation old ((row, count) ∷ new) → IsOnce new
once_rest row count old new once taken = IsDistinct-tail same_row row (keys_of new) (once_moved old ((row, count) ∷ new) taken once)

-- ---- a change of one entry

other_count : (b : Bool) (new old m n rest : ℕ) (change : ℤ) → new ≡ cond b m 0 + rest → old ≡ cond b n 0 + rest → pos m ≡ pos n +ℤ change
    → pos new ≡ pos old +ℤ (cond b change (pos 0) +ℤ pos 0)
other_count true new old m n rest change p q r = omega (arith, ints, p, q, r)
other_count false new old m n rest change p q r = omega (arith, ints, p, q, r)

twice : (b c : Bool) → cond b true c ≡ cond b true (cond b true c)
twice true c = refl
twice false c = refl

-- A row without an entry gets one.
module _ (row : List Value) (count : ℕ) (old new : Entries) (once : IsOnce old) (none : has_entry row old ≡ false)
    (put : IsPermutation new ((row, count) ∷ old)) where
  first : IsOnce ((row, count) ∷ old)
  first = once_cons row count old once none

  back : IsPermutation ((row, count) ∷ old) new
  back = IsPermutation-sym new ((row, count) ∷ old) put

  pub once_put : IsOnce new
  once_put = once_moved ((row, count) ∷ old) new back first

-- An entry gets another count.
module _ (row : List Value) (n m : ℕ) (rest old new : Entries) (change : ℤ) (once : IsOnce old)
    (before : IsPermutation old ((row, n) ∷ rest)) (after : IsPermutation new ((row, m) ∷ rest)) where
  was : IsOnce ((row, n) ∷ rest)
  was = once_moved old ((row, n) ∷ rest) before once

  is : IsOnce ((row, m) ∷ rest)
  is = was

  after_back : IsPermutation ((row, m) ∷ rest) new
  after_back = IsPermutation-sym new ((row, m) ∷ rest) after

  pub once_recounted : IsOnce new
  once_recounted = once_moved ((row, m) ∷ rest) new after_back is

  pub adds_recounted : pos m ≡ pos n +ℤ change → Adds (record { row = row; count = change }) old new
  adds_recounted by = record {
    counts = λ q. other_count (same_row q row) (count_in q new) (count_in q old) m n (count_in q rest) change
        (sym (count_moved q ((row, m) ∷ rest) new after_back is) ∙ count_cons q (row, m) rest is)
        (count_moved q old ((row, n) ∷ rest) before once ∙ count_cons q (row, n) rest was) by;
    entries = λ q.
        has_moved q new ((row, m) ∷ rest) after
        ∙ (has_cons q (row, m) rest
        ∙ (twice (same_row row q) (has_entry q rest)
        ∙ ap (λ b. cond (same_row row q) true b) (sym (has_moved q old ((row, n) ∷ rest) before ∙ has_cons q (row, n) rest))));
  }

  pub total_recounted : pos m ≡ pos n +ℤ change → pos (total_of new) ≡ pos (total_of old) +ℤ change
  total_recounted by =
      let now : total_of new ≡ m + total_of rest = total_moved ((row, m) ∷ rest) new after_back ∙ total_cons (row, m) rest in
      let then : total_of old ≡ n + total_of rest =
      total_moved ((row, n) ∷ rest) old (IsPermutation-sym old ((row, n) ∷ rest) before) ∙ total_cons (row, n) rest
      in
      omega (arith, ints, now, then, by)

  -- The count of the row is that of its entry.
  pub count_found : count_in row old ≡ n
  count_found =
      count_moved row old ((row, n) ∷ rest) before once ∙ ap (λ b. unwrap_or (cond b (Some n) (lookup (same_row row) rest)) 0) (same_row_equiv.refl row)

  pub entry_found : has_entry row old ≡ true
  entry_found =
      has_moved row old ((row, n) ∷ rest) before
      ∙ (has_cons row (row, n) rest ∙ ap (λ b. cond b true (has_entry row rest)) (same_row_equiv.refl row))

-- An entry with the count 0 is removed.
module _ (row : List Value) (old new : Entries) (once : IsOnce old) (taken : IsPermutation old ((row, 0) ∷ new)) where
  had : IsOnce ((row, 0) ∷ new)
  had = once_moved old ((row, 0) ∷ new) taken once

  pub counts_taken : (q : List Value) → count_in q new ≡ count_in q old
  counts_taken q = sym (count_moved q old ((row, 0) ∷ new) taken once ∙ (count_cons q (row, 0) new had ∙ none (same_row q row) (count_in q new)))
    where
      none : (b : Bool) (k : ℕ) → cond b 0 0 + k ≡ k
      none true k = omega arith
      none false k = omega arith

  pub total_taken : total_of new ≡ total_of old
  total_taken =
      let sum : total_of old ≡ 0 + total_of new =
      total_moved ((row, 0) ∷ new) old (IsPermutation-sym old ((row, 0) ∷ new) taken) ∙ total_cons (row, 0) new
      in
      omega (arith, sum)

  pub gone_taken : has_entry row new ≡ false
  gone_taken = none_behind row 0 new had

  pub has_was : (q : List Value) → has_entry q old ≡ cond (same_row row q) true (has_entry q new)
  has_was q = has_moved q old ((row, 0) ∷ new) taken ∙ has_cons q (row, 0) new

  pub others_taken : (q : List Value) → has_entry q new ≡ true → has_entry q old ≡ true
  others_taken q has = has_was q ∙ (ap (λ b. cond (same_row row q) true b) has ∙ either (same_row row q))
    where
      either : (b : Bool) → cond b true true ≡ true
      either true = refl
      either false = refl

  pub beside_taken : (q : List Value) → same_row row q ≡ false → has_entry q new ≡ has_entry q old
  beside_taken q apart = sym (has_was q ∙ ap (λ b. cond b true (has_entry q new)) apart)
