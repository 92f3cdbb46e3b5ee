-- A bag as counts has as many rows as the list that it represents, and shows the same.
use Rattle.std.proofs.Common.{◌≡◌, ◌≢◌, not, ℕ, zero, suc, pos, ◌+◌, ◌<◌, ◌≤◌, min}
use Rattle.std.proofs.Common.{Bool, true, false, true≢false, cond, is_some, List, [], ◌∷◌, get_or, length, map}
use Rattle.std.proofs.Common.{replicate, Some, None, refl, sym, ap, ◌∙◌, arith}
use Rattle.std.specs.Prelude.{◌==◌}
use Rattle.std.specs.List.{All, filter, sum_by}
use Rattle.std.specs.List.Sorted.{IsPermutation}
use Rattle.std.specs.Map.{keys_of, lookup, values_of}
use Rattle.std.specs.Option.{unwrap_or}
use Rattle.std.proofs.lemmas.Bool.{ltb-false}
use Rattle.std.proofs.lemmas.List.{length-append, length-map, length-replicate}
use Rattle.std.proofs.lemmas.List.Sums.{sum_by-cons, sum_by-append}
use Rattle.std.proofs.lemmas.List.Sorted.{length_permutation}
use Rattle.std.proofs.lemmas.Map.{lookup-none}
use Rattle.std.proofs.lemmas.Map.Entries.{none_past_head}
use Rattle.std.proofs.lemmas.Map.Keys.{IsDistinct-tail}
use Rattle.mm_value.specs.Equality.{same_row}
use Rattle.mm_value.specs.EqualityLaws.{same_row_equiv}
use Rattle.mm_value.specs.declared.refusal.Refusal.TheVariants.{StandingListTooLarge}
use Rattle.mm_value.specs.declared.values.Value.{Value}
use Rattle.mm_value.specs.declared.values.Value.TheVariants.{Int}
use Rattle.mm_schema.specs.Refused.{first_refusal}
use Rattle.mm_schema.specs.Sorting.{in_order}
use Rattle.mm_query.specs.Queries.{bag_of, combinations, fits, one_of_each, projected, rows_by_columns, value_at}
use Rattle.mm_query.specs.declared.bound_query.BoundQuery.{BoundQuery}
use Rattle.mm_laws.proofs.QueryLaws.{one_counted, shown_permutation, same_from}
use Rattle.mm_laws.proofs.SortedRows.{shown_of_permutation}
use Rattle.mm_multiset.specs.Counts.{Entries, IsOnce, count_in, count_of, has_rows, total_of}
use Rattle.mm_standing.specs.Queries.{IsBagOf, is_too_large, list_conditions, shown_of}
use Rattle.mm_standing.specs.Showing.{rows_shown, times_shown}
use Rattle.mm_standing.proofs.Counting.{counted_at, counted_once, find_counted, permutation_from_counts}
use Rattle.mm_schema.specs.Rows.{most_rows}
use Rattle.mm_multiset.proofs.Walked.{zero_is}

itself : (row : List Value) → same_row row row ≡ true
itself row = same_row_equiv.refl row

pub permutation_of_rows : (xs ys : List (List Value)) → ((row : List Value) → count_of row xs ≡ count_of row ys) → IsPermutation xs ys
permutation_of_rows = permutation_from_counts same_row itself same_from

-- ---- how often a row is shown

copies : (row x : List Value) (n : ℕ) → count_of row (replicate n x) ≡ cond (same_row row x) n 0
copies row x zero = by (same_row row x)
  where
    by : (b : Bool) → ◌≡◌ {A = ℕ} 0 (cond b 0 0)
    by true = refl
    by false = refl
copies row x (suc n) = sum_by-cons (λ y. cond (same_row row y) 1 0) x (replicate n x) ∙ ap (λ m. cond (same_row row x) 1 0 + m) (copies row x n)
    ∙ by (same_row row x)
  where
    by : (b : Bool) → ◌≡◌ {A = ℕ} (cond b 1 0 + cond b n 0) (cond b (suc n) 0)
    by true = omega arith
    by false = omega arith

never : (distinct : Bool) → times_shown distinct 0 ≡ 0
never true = omega arith
never false = refl

module _ (distinct : Bool) where
  -- A row is shown as often as its count.
  pub count_shown : (row : List Value) (es : Entries) → IsOnce es → count_of row (rows_shown distinct es) ≡ times_shown distinct (count_in row es)
  count_shown row [] once = sym (never distinct)
  count_shown row (e ∷ es) once =
      sum_by-append (λ y. cond (same_row row y) 1 0) (replicate (times_shown distinct e.1) e.0) (rows_shown distinct es)
      ∙ (λ i. copies row e.0 (times_shown distinct e.1) i + count_shown row es (IsDistinct-tail same_row e.0 (keys_of es) once) i)
      ∙ by (same_row row e.0) refl
    where
      by : (b : Bool) → same_row row e.0 ≡ b
          → cond b (times_shown distinct e.1) 0 + times_shown distinct (count_in row es)
          ≡ times_shown distinct (unwrap_or (cond b (Some e.1) (lookup (same_row row) es)) 0)
      by true is =
          let none = ap (λ o. unwrap_or o 0) (lookup-none (same_row row) es (none_past_head same_row_equiv row e es once is)) in
          let no_more : times_shown distinct (count_in row es) ≡ 0 = ap (times_shown distinct) none ∙ never distinct in
          omega (arith, no_more)
      by false is = omega arith

  pub length_shown : (es : Entries) → length (rows_shown distinct es) ≡ sum_by (λ e. times_shown distinct e.1) es
  length_shown [] = refl
  length_shown (e ∷ es) =
      length-append (replicate (times_shown distinct e.1) e.0) (rows_shown distinct es)
      ∙ (λ i. length-replicate (times_shown distinct e.1) e.0 i + length_shown es i)
      ∙ sym (sum_by-cons (λ e. times_shown distinct e.1) e es)

some_is : (n : ℕ) → not (n == 0) ≡ true → n ≢ 0
some_is n is = grind arith

-- Without DISTINCT, the number of shown rows is the sum of the counts.
pub total_shown : (es : Entries) → length (rows_shown false es) ≡ total_of es
total_shown [] = refl
total_shown (e ∷ es) =
    length-append (replicate e.1 e.0) (rows_shown false es)
    ∙ (λ i. length-replicate e.1 e.0 i + total_shown es i)
    ∙ sym (sum_by-cons (λ x. x) e.1 (values_of es))

-- With DISTINCT, the number of shown rows is the number of entries whose count is not 0.
pub distinct_shown : (es : Entries) → length (rows_shown true es) ≡ length (filter has_rows es)
distinct_shown [] = refl
distinct_shown (e ∷ es) =
    length-append (replicate (min e.1 1) e.0) (rows_shown true es)
    ∙ (λ i. length-replicate (min e.1 1) e.0 i + distinct_shown es i)
    ∙ by (has_rows e) refl
  where
    by : (b : Bool) → has_rows e ≡ b → min e.1 1 + length (filter has_rows es) ≡ length (cond b (e ∷ filter has_rows es) (filter has_rows es))
    by true is = let some : e.1 ≢ 0 = some_is e.1 is in omega (arith, some)
    by false is = let zero : e.1 ≡ 0 = zero_is e.1 is in omega (arith, zero)

-- ---- the shown rows are those of the bag

once_each : (row : List Value) (rows : List (List Value)) → count_of row (one_of_each rows) ≡ min (count_of row rows) 1
once_each row rows = one_counted rows row ∙ counted_once (same_row row) rows

module _ (es : Entries) (rows : List (List Value)) (once : IsOnce es) (bag : IsBagOf es rows) where
  pub permutation_shown : (distinct : Bool) → IsPermutation (rows_shown distinct es) (cond distinct (one_of_each rows) rows)
  permutation_shown true =
      permutation_of_rows (rows_shown true es) (one_of_each rows)
      (λ row. count_shown true row es once ∙ ap (λ n. min n 1) (bag row) ∙ sym (once_each row rows))
  permutation_shown false = permutation_of_rows (rows_shown false es) rows (λ row. count_shown false row es once ∙ bag row)

  -- A query shows the rows of the entries, in its order.
  pub shown_from_entries : (query : BoundQuery) → in_order (rows_by_columns query.order) (rows_shown query.distinct es) ≡ shown_of query rows
  shown_from_entries query =
      shown_of_permutation query.order (rows_shown query.distinct es) (cond query.distinct (one_of_each rows) rows) (permutation_shown query.distinct)

  pub length_of_shown : (query : BoundQuery) → length (rows_shown query.distinct es) ≡ length (shown_of query rows)
  length_of_shown query =
      sym (length_permutation (rows_shown query.distinct es) (cond query.distinct (one_of_each rows) rows) (permutation_shown query.distinct))
      ∙ sym (length_permutation (cond query.distinct (one_of_each rows) rows) (shown_of query rows)
      (shown_permutation query (cond query.distinct (one_of_each rows) rows)))

-- The sum of the counts is the number of rows.
pub total_is_length : (entries : Entries) (rows : List (List Value)) → IsOnce entries → IsBagOf entries rows → total_of entries ≡ length rows
total_is_length entries rows once bag =
    sym (total_shown entries) ∙ sym (length_permutation (rows_shown false entries) rows (permutation_shown entries rows once bag false))

-- If a list is not refused because of its number of rows, it has at most 1,048,576.
pub few_rows : (rows : List (List Value)) → first_refusal (list_conditions rows) ≡ None → length rows ≤ most_rows
few_rows rows none = by (is_too_large rows) refl none
  where
    by : (b : Bool) → is_too_large rows ≡ b → cond b (Some StandingListTooLarge) None ≡ None → length rows ≤ most_rows
    by true e h = absurd (true≢false (ap is_some h))
    by false e h = ltb-false most_rows (length rows) e

-- ---- the number of values of a row

module _ (query : BoundQuery) where
  each_wide : (cs : List (List (List Value))) (k : ℕ) (d : List Value) → k < length (map (projected query) cs)
      → length (get_or (map (projected query) cs) k d) ≡ length query.fields
  each_wide [] k d within = absurd (omega (arith, within))
  each_wide (c ∷ cs) zero d within = length-map query.fields (λ field. unwrap_or (value_at (map Some c) field) (Int (pos 0)))
  each_wide (c ∷ cs) (suc k) d within = each_wide cs k d (omega (arith, within))

  shown_some : (distinct : Bool) (n : ℕ) → 0 < times_shown distinct n → 0 < n
  shown_some true n some = omega (arith, some)
  shown_some false n some = some

  -- The rows shown of a bag of the query have as many values as the query has fields.
  pub rows_wide : (distinct : Bool) (es : Entries) (lists : List (List (List Value))) → IsOnce es → IsBagOf es (bag_of query lists)
      → All (λ (row : List Value). length row ≡ length query.fields) (rows_shown distinct es)
  rows_wide distinct es lists once bag k d within =
      let row = get_or (rows_shown distinct es) k d in
      let some = counted_at (same_row row) (rows_shown distinct es) k d within (itself row) in
      let counted = count_shown distinct row es once in
      let more : 0 < count_in row es = shown_some distinct (count_in row es) (omega (arith, some, counted)) in
      let found = find_counted (same_row row) row (bag_of query lists) (omega (arith, more, bag row)) in
      ap (λ (r : List Value). length r) (same_from row (get_or (bag_of query lists) found.0 row) found.2)
      ∙ each_wide (filter (fits query) (combinations lists)) found.0 row found.1
