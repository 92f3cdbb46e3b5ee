-- The meaning of queries: how often combinations and rows occur, and the order in which rows are shown.
use Rattle.std.proofs.Common.{◌≡◌, ℕ, ◌+◌, ◌*◌, Bool, true, false, cond, not, ◌&&◌, ◌||◌, List, [], ◌∷◌, ◌++◌, map, refl, sym, ap, ◌∙◌, arith, zero-add}
use Rattle.std.specs.Cmp.{IsTotalOrder}
use Rattle.std.specs.List.{count_by, filter, flat_map, list_any}
use Rattle.std.specs.List.Sorted.{IsPermutation, IsSorted}
use Rattle.std.specs.Ordering.{is_eq}
use Rattle.std.proofs.lemmas.Bool.{false≢true}
use Rattle.std.proofs.lemmas.List.Sums.{sum_by-append, sum_by-cons}
use Rattle.std.proofs.lemmas.Map.Lookups.{CmpEqualImpliesEq}
use Rattle.mm_value.specs.Order.{row_cmp}
use Rattle.mm_value.specs.declared.values.Value.{Value}
use Rattle.mm_value.proofs.Orders.{row_cmp_exact, row_cmp_total}
use Rattle.mm_schema.proofs.InOrder.{IsPermutation-in_order, IsSorted-in_order}
use Rattle.mm_schema.proofs.Orderings.{equal_from_is_eq, is_eq_reversed}
use Rattle.mm_schema.specs.Refused.{ascend}
use Rattle.mm_query.specs.Atoms.{value_in}
use Rattle.mm_query.specs.Counting.{pass_each, product_of_counts}
use Rattle.mm_query.specs.Queries.{bag_of, combinations, fits, one_of_each, projected, rows_by_columns, same_row, shown, sort_key}
use Rattle.mm_query.specs.Resolving.{select_conditions}
use Rattle.mm_query.specs.State.{State}
use Rattle.mm_query.specs.declared.bound_query.BoundQuery.{BoundQuery}
use Rattle.mm_query.specs.declared.query.Query.{Query}

-- The conditions of a query are in the one order.
pub query_ascending : (query : Query) (state : State) → ascend (select_conditions query state) ≡ true
query_ascending query state = refl

-- ---- counts

module _ {X : Type 0} (p : X → Bool) where
  abbrev one : X → ℕ
  one x = cond (p x) 1 0

  pub count_cons : (x : X) (xs : List X) → count_by p (x ∷ xs) ≡ cond (p x) 1 0 + count_by p xs
  count_cons x xs = sum_by-cons one x xs

  count_append : (xs ys : List X) → count_by p (xs ++ ys) ≡ count_by p xs + count_by p ys
  count_append xs ys = sum_by-append one xs ys

  -- If no element that passes stays in a filter, none is counted, ..
  none_counted : (q : X → Bool) → ((x : X) → p x ≡ true → q x ≡ false) → (xs : List X) → count_by p (filter q xs) ≡ 0
  none_counted q drops [] = refl
  none_counted q drops (x ∷ xs) = by (q x) (p x) refl refl (none_counted q drops xs)
    where
      by : (stays passes : Bool) → q x ≡ stays → p x ≡ passes → count_by p (filter q xs) ≡ 0
          → count_by p (cond stays (x ∷ filter q xs) (filter q xs)) ≡ 0
      by true true here is later = absurd (false≢true (sym (drops x is) ∙ here))
      by true false here is later = count_cons x (filter q xs) ∙ (λ i. cond (is i) 1 0 + later i)
      by false passes here is later = later

  -- .. and if all that pass stay, all are.
  all_counted : (q : X → Bool) → ((x : X) → p x ≡ true → q x ≡ true) → (xs : List X) → count_by p (filter q xs) ≡ count_by p xs
  all_counted q keeps [] = refl
  all_counted q keeps (x ∷ xs) = by (q x) (p x) refl refl (all_counted q keeps xs)
    where
      by : (stays passes : Bool) → q x ≡ stays → p x ≡ passes → count_by p (filter q xs) ≡ count_by p xs
          → count_by p (cond stays (x ∷ filter q xs) (filter q xs)) ≡ count_by p (x ∷ xs)
      by true passes here is later = count_cons x (filter q xs) ∙ (ap (λ n. cond (p x) 1 0 + n) later ∙ sym (count_cons x xs))
      by false true here is later = absurd (false≢true (sym here ∙ keeps x is))
      by false false here is later = later ∙ sym (count_cons x xs ∙ ((λ i. cond (is i) 1 0 + count_by p xs) ∙ zero-add (count_by p xs)))

-- ---- combinations

module _ {X : Type 0} where
  in_front : (test : X → Bool) (tests : List (X → Bool)) (x : X) (others : List (List X))
      → count_by (pass_each (test ∷ tests)) (map (λ c. x ∷ c) others) ≡ cond (test x) 1 0 * count_by (pass_each tests) others
  in_front test tests x [] = omega arith
  in_front test tests x (c ∷ others) =
      count_cons (pass_each (test ∷ tests)) (x ∷ c) (map (λ c. x ∷ c) others)
      ∙ (ap (λ n. cond (test x && pass_each tests c) 1 0 + n) (in_front test tests x others)
      ∙ (by (test x) (pass_each tests c) (count_by (pass_each tests) others)
      ∙ ap (λ n. cond (test x) 1 0 * n) (sym (count_cons (pass_each tests) c others))))
    where
      by : (a b : Bool) (n : ℕ) → cond (a && b) 1 0 + cond a 1 0 * n ≡ cond a 1 0 * (cond b 1 0 + n)
      by true b n = omega arith
      by false b n = omega arith

  none_in_front : (x : X) (others : List (List X)) → count_by (pass_each []) (map (λ c. x ∷ c) others) ≡ 0
  none_in_front x [] = refl
  none_in_front x (c ∷ others) =
      count_cons (pass_each []) (x ∷ c) (map (λ c. x ∷ c) others) ∙ (zero-add _ ∙ none_in_front x others)

  in_fronts : (test : X → Bool) (tests : List (X → Bool)) (others : List (List X)) (xs : List X)
      → count_by (pass_each (test ∷ tests)) (flat_map (λ x. map (λ c. x ∷ c) others) xs) ≡ count_by test xs * count_by (pass_each tests) others
  in_fronts test tests others [] = omega arith
  in_fronts test tests others (x ∷ xs) =
      count_append (pass_each (test ∷ tests)) (map (λ c. x ∷ c) others) (flat_map (λ x. map (λ c. x ∷ c) others) xs)
      ∙ ((λ i. in_front test tests x others i + in_fronts test tests others xs i)
      ∙ (by (cond (test x) 1 0) (count_by test xs) (count_by (pass_each tests) others)
      ∙ ap (λ n. n * count_by (pass_each tests) others) (sym (count_cons test x xs))))
    where
      by : (a b n : ℕ) → a * n + b * n ≡ (a + b) * n
      by a b n = grind (arith)

  none_in_fronts : (others : List (List X)) (xs : List X) → count_by (pass_each []) (flat_map (λ x. map (λ c. x ∷ c) others) xs) ≡ 0
  none_in_fronts others [] = refl
  none_in_fronts others (x ∷ xs) =
      count_append (pass_each []) (map (λ c. x ∷ c) others) (flat_map (λ x. map (λ c. x ∷ c) others) xs)
      ∙ (λ i. none_in_front x others i + none_in_fronts others xs i)

  -- The number of combinations that pass is the product of the numbers of elements that pass.
  pub combinations_counted : (tests : List (X → Bool)) (lists : List (List X))
      → count_by (pass_each tests) (combinations lists) ≡ product_of_counts tests lists
  combinations_counted [] [] = refl
  combinations_counted (test ∷ tests) [] = refl
  combinations_counted [] (xs ∷ lists) = none_in_fronts (combinations lists) xs
  combinations_counted (test ∷ tests) (xs ∷ lists) =
      in_fronts test tests (combinations lists) xs ∙ ap (λ n. count_by test xs * n) (combinations_counted tests lists)

module _ (query : BoundQuery) (row : List Value) where
  -- the combination matches, and yields the row
  abbrev gives : List (List Value) → Bool
  gives c = fits query c && same_row row (projected query c)

  each_counted : (cs : List (List (List Value))) → count_by (same_row row) (map (projected query) (filter (fits query) cs)) ≡ count_by gives cs
  each_counted [] = refl
  each_counted (c ∷ cs) = by (fits query c) refl (each_counted cs)
    where
      by : (b : Bool) → fits query c ≡ b → count_by (same_row row) (map (projected query) (filter (fits query) cs)) ≡ count_by gives cs
          → count_by (same_row row) (map (projected query) (cond b (c ∷ filter (fits query) cs) (filter (fits query) cs))) ≡ count_by gives (c ∷ cs)
      by true here later =
          count_cons (same_row row) (projected query c) (map (projected query) (filter (fits query) cs))
          ∙ ((λ i. cond (sym here i && same_row row (projected query c)) 1 0 + later i) ∙ sym (count_cons gives c cs))
      by false here later =
          later ∙ sym (count_cons gives c cs ∙ ((λ i. cond (here i && same_row row (projected query c)) 1 0 + count_by gives cs) ∙ zero-add _))

-- The count of a row in a bag is the number of matching combinations that yield it.
pub bag_counted : (query : BoundQuery) (lists : List (List (List Value))) (row : List Value)
    → count_by (same_row row) (bag_of query lists) ≡ count_by (λ c. fits query c && same_row row (projected query c)) (combinations lists)
bag_counted query lists row = each_counted query row (combinations lists)

-- ---- one of each row

pub same_from : (a b : List Value) → same_row a b ≡ true → a ≡ b
same_from a b same = row_cmp_exact a b (equal_from_is_eq (row_cmp a b) same)

same_back : (a b : List Value) → same_row a b ≡ same_row b a
same_back a b = ap is_eq (row_cmp_total.antisymm a b) ∙ is_eq_reversed (row_cmp b a)

module _ (first row : List Value) where
  abbrev others : List Value → Bool
  others other = not (same_row first other)

  none_alike : same_row row first ≡ true → (x : List Value) → same_row row x ≡ true → others x ≡ false
  none_alike same x is = ap not (ap (λ r. same_row r x) (sym (same_from row first same)) ∙ is)

  all_unlike : same_row row first ≡ false → (x : List Value) → same_row row x ≡ true → others x ≡ true
  all_unlike other x is = ap not (ap (λ r. same_row first r) (sym (same_from row x is)) ∙ (same_back first row ∙ other))

-- Each row is kept once, and no other.
pub one_counted : (rows : List (List Value)) (row : List Value)
    → count_by (same_row row) (one_of_each rows) ≡ cond (list_any (same_row row) rows) 1 0
one_counted [] row = refl
one_counted (first ∷ rows) row =
    count_cons (same_row row) first (filter (others first row) (one_of_each rows)) ∙ by (same_row row first) refl (one_counted rows row)
  where
    by : (b : Bool) → same_row row first ≡ b → count_by (same_row row) (one_of_each rows) ≡ cond (list_any (same_row row) rows) 1 0
        → cond b 1 0 + count_by (same_row row) (filter (others first row) (one_of_each rows)) ≡ cond (b || list_any (same_row row) rows) 1 0
    by true is later = ap (λ n. 1 + n) (none_counted (same_row row) (others first row) (none_alike first row is) (one_of_each rows))
    by false is later =
        zero-add _ ∙ (all_counted (same_row row) (others first row) (all_unlike first row is) (one_of_each rows) ∙ later)

-- ---- the order of rows

pub shown_total : (columns : List ℕ) → IsTotalOrder (rows_by_columns columns)
shown_total columns = record {
  antisymm = λ a b. row_cmp_total.antisymm (sort_key columns a) (sort_key columns b);
  trans = λ a b c. row_cmp_total.trans (sort_key columns a) (sort_key columns b) (sort_key columns c);
  congr = λ a b c. row_cmp_total.congr (sort_key columns a) (sort_key columns b) (sort_key columns c);
}

same_behind : (columns : List ℕ) (a b a' b' : List Value)
    → map (λ column. value_in column a) columns ++ a' ≡ map (λ column. value_in column b) columns ++ b' → a' ≡ b'
same_behind [] a b a' b' e = e
same_behind (column ∷ columns) a b a' b' e = same_behind columns a b a' b' cc

pub shown_exact : (columns : List ℕ) → CmpEqualImpliesEq (rows_by_columns columns)
shown_exact columns a b equal = same_behind columns a b a b (row_cmp_exact (sort_key columns a) (sort_key columns b) equal)

pub shown_permutation : (query : BoundQuery) (rows : List (List Value)) → IsPermutation rows (shown query rows)
shown_permutation query rows = IsPermutation-in_order (rows_by_columns query.order) rows

pub shown_sorted : (query : BoundQuery) (rows : List (List Value)) → IsSorted (rows_by_columns query.order) (shown query rows)
shown_sorted query rows = IsSorted-in_order (shown_total query.order) rows
