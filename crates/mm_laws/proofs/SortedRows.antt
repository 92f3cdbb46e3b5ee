-- A sorted list is determined by the number of occurrences of each element; without equal neighbours it has one of each.
use Rattle.std.proofs.Common.{◌≡◌, ℕ, suc, ◌+◌, ◌<◌, Bool, true, false, cond, not, List, [], ◌∷◌, length, get_or, refl, sym, ap, ◌∙◌, subst, arith, zero-add}
use Rattle.std.specs.Cmp.{IsTotalOrder}
use Rattle.std.specs.List.{AllByRecursion, count_by, dedup, dedup_from, filter}
use Rattle.std.specs.List.Sorted.{IsPermutation, IsSorted}
use Rattle.std.specs.Ordering.{is_eq, is_lt, ordering_reverse}
use Rattle.std.specs.declared.cmp.Ordering.{Ordering}
use Rattle.std.specs.declared.cmp.Ordering.TheVariants.{Less, Equal, Greater}
use Rattle.std.proofs.lemmas.Bool.{false≢true}
use Rattle.std.proofs.lemmas.Cmp.{tied_itself}
use Rattle.std.proofs.lemmas.List.Sorted.{IsPermutation-trans, list_any-IsPermutation, ranks_by, sorted_far, sum_by-IsPermutation}
use Rattle.std.proofs.lemmas.Map.Lookups.{CmpEqualImpliesEq}
use Rattle.mm_value.specs.Order.{row_cmp}
use Rattle.mm_value.specs.declared.values.Value.{Value}
use Rattle.mm_value.proofs.Orders.{row_cmp_exact, row_cmp_total}
use Rattle.mm_schema.specs.Sorting.{in_order}
use Rattle.mm_schema.proofs.InOrder.{IsPermutation-in_order, IsSorted-in_order}
use Rattle.mm_schema.proofs.Orderings.{equal_from_is_eq, is_eq_reversed}
use Rattle.mm_schema.proofs.StrictOrder.{AllByRecursion-weaker}
use Rattle.mm_query.specs.Queries.{one_of_each, rows_by_columns, same_row}
use Rattle.mm_laws.proofs.QueryLaws.{count_cons, one_counted, shown_exact, shown_total}

-- No element is less than an earlier one.
abbrev pub Ascends : {X : Type 0} → (X → X → Ordering) → List X → Type 0
Ascends cmp [] = Unit {0}
Ascends cmp (x ∷ xs) = AllByRecursion (λ y. is_lt (cmp y x) ≡ false) xs × Ascends cmp xs

from_each : {X : Type 0} (P : X → Type 0) (xs : List X) → ((k : ℕ) (d : X) → k < length xs → P (get_or xs k d)) → AllByRecursion P xs
from_each P [] each = tt
from_each P (x ∷ xs) each = (each 0 x (omega arith), from_each P xs (λ k d within. each (suc k) d (omega arith)))

neither_less : (o : Ordering) → is_lt o ≡ false → is_lt (ordering_reverse o) ≡ false → o ≡ Equal
neither_less Less a b = (cc)
neither_less Equal a b = refl
neither_less Greater a b = (cc)

module _ {X : Type 0} {cmp : X → X → Ordering} (total : IsTotalOrder cmp) where
  pub ascends_from_sorted : (xs : List X) → IsSorted cmp xs → Ascends cmp xs
  ascends_from_sorted [] sorted = tt
  ascends_from_sorted (x ∷ xs) sorted = (
    from_each (λ y. is_lt (cmp y x) ≡ false) xs
        (λ k d within. sorted_far (λ a b. is_lt (cmp a b)) (ranks_by total (λ a. a)) (x ∷ xs) sorted 0 (suc k) d (omega arith) (omega arith)),
    ascends_from_sorted xs (λ k d low within.
        let next : suc k + 1 ≡ suc (k + 1) = omega arith in
        subst (λ n. is_lt (cmp (get_or (x ∷ xs) n d) (get_or xs k d)) ≡ false) next (sorted (suc k) d (omega arith) (omega arith))),
  )

  -- ---- one sorted list

  module _ (exact : CmpEqualImpliesEq cmp) (same : X → X → Bool) (means : (a b : X) → same a b ≡ true → a ≡ b) (itself : (a : X) → same a a ≡ true) where
    counted_is_not_less : (x y : X) (zs : List X) → AllByRecursion (λ z. is_lt (cmp z x) ≡ false) zs → 0 < count_by (same y) zs → is_lt (cmp y x) ≡ false
    counted_is_not_less x y [] all some = absurd (omega (arith, some))
    counted_is_not_less x y (z ∷ zs) all some = by (same y z) refl (counted_is_not_less x y zs all.1)
      where
        by : (b : Bool) → same y z ≡ b → (0 < count_by (same y) zs → is_lt (cmp y x) ≡ false) → is_lt (cmp y x) ≡ false
        by true is behind = subst (λ a. is_lt (cmp a x) ≡ false) (sym (means y z is)) all.0
        by false is behind =
            let later : count_by (same y) (z ∷ zs) ≡ count_by (same y) zs =
            count_cons (same y) z zs ∙ ((λ i. cond (is i) 1 0 + count_by (same y) zs) ∙ zero-add (count_by (same y) zs)) in
            behind (omega (arith, some, later))

    abbrev alike : X → X → ℕ
    alike a b = cond (same a b) 1 0

    first_counted : (x : X) (xs : List X) → count_by (same x) (x ∷ xs) ≡ 1 + count_by (same x) xs
    first_counted x xs = count_cons (same x) x xs ∙ (λ i. cond (itself x i) 1 0 + count_by (same x) xs)

    -- The first of a sorted list is not greater than an element of it.
    first_is_least : (x y : X) (ys : List X) → Ascends cmp (y ∷ ys) → 0 < count_by (same x) (y ∷ ys) → is_lt (cmp x y) ≡ false
    first_is_least x y ys up some =
        counted_is_not_less y x (y ∷ ys) (ap is_lt (tied_itself total y), up.0) some

    pub same_sorted : (xs ys : List X) → Ascends cmp xs → Ascends cmp ys → ((z : X) → count_by (same z) xs ≡ count_by (same z) ys) → xs ≡ ys
    same_sorted [] [] up_x up_y counts = refl
    same_sorted [] (y ∷ ys) up_x up_y counts = absurd (omega (arith, counts y, first_counted y ys))
    same_sorted (x ∷ xs) [] up_x up_y counts = absurd (omega (arith, counts x, first_counted x xs))
    same_sorted (x ∷ xs) (y ∷ ys) up_x up_y counts =
        let x_behind : is_lt (cmp x y) ≡ false = first_is_least x y ys up_y (omega (arith, counts x, first_counted x xs)) in
        let y_behind : is_lt (cmp y x) ≡ false = first_is_least y x xs up_x (omega (arith, counts y, first_counted y ys)) in
        let first : x ≡ y = exact x y (neither_less (cmp x y) x_behind (ap is_lt (sym (total.antisymm y x)) ∙ y_behind)) in
        let rest : (z : X) → count_by (same z) xs ≡ count_by (same z) ys = λ z.
        let one : alike z x ≡ alike z y = ap (alike z) first in
        omega (arith, counts z, count_cons (same z) x xs, count_cons (same z) y ys, one) in
        λ i. first i ∷ same_sorted xs ys up_x.1 up_y.1 rest i

    counted_in_order : (xs : List X) (z : X) → count_by (same z) (in_order cmp xs) ≡ count_by (same z) xs
    counted_in_order xs z = sum_by-IsPermutation (λ a. cond (same z a) 1 0) xs (in_order cmp xs) (IsPermutation-in_order cmp xs)

    -- A sorted list with the same number of occurrences of each element is the list in order.
    pub in_order_by_counts : (xs ys : List X) → Ascends cmp ys → ((z : X) → count_by (same z) xs ≡ count_by (same z) ys) → in_order cmp xs ≡ ys
    in_order_by_counts xs ys up counts =
        same_sorted (in_order cmp xs) ys (ascends_from_sorted (in_order cmp xs) (IsSorted-in_order total xs)) up
        (λ z. counted_in_order xs z ∙ counts z)

-- ---- rows

module _ (P : List Value → Type 0) where
  one_kept : (b : Bool) (row : List Value) (rows : List (List Value)) → P row → AllByRecursion P rows → AllByRecursion P (cond b (row ∷ rows) rows)
  one_kept true row rows here all = (here, all)
  one_kept false row rows here all = all

  all_kept : (test : List Value → Bool) (rows : List (List Value)) → AllByRecursion P rows → AllByRecursion P (filter test rows)
  all_kept test [] all = tt
  all_kept test (row ∷ rows) all = one_kept (test row) row (filter test rows) all.0 (all_kept test rows all.1)

  all_one_of_each : (rows : List (List Value)) → AllByRecursion P rows → AllByRecursion P (one_of_each rows)
  all_one_of_each [] all = tt
  all_one_of_each (row ∷ rows) all = (all.0, all_kept (λ other. not (same_row row other)) (one_of_each rows) (all_one_of_each rows all.1))

module _ (test : List Value → Bool) where
  kept_twice : (rows : List (List Value)) → filter test (filter test rows) ≡ filter test rows
  kept_twice [] = refl
  kept_twice (row ∷ rows) = by (test row) refl (kept_twice rows)
    where
      by : (b : Bool) → test row ≡ b → filter test (filter test rows) ≡ filter test rows
          → filter test (cond b (row ∷ filter test rows) (filter test rows)) ≡ cond b (row ∷ filter test rows) (filter test rows)
      by true is later = (λ i. cond (is i) (row ∷ later i) (later i))
      by false is later = later

  kept_all : (rows : List (List Value)) → AllByRecursion (λ row. test row ≡ true) rows → filter test rows ≡ rows
  kept_all [] all = refl
  kept_all (row ∷ rows) all = λ i. cond (all.0 i) (row ∷ kept_all rows all.1 i) (kept_all rows all.1 i)

same_means : (a b : List Value) → same_row a b ≡ true → a ≡ b
same_means a b same = row_cmp_exact a b (equal_from_is_eq (row_cmp a b) same)

same_itself : (a : List Value) → same_row a a ≡ true
same_itself a = ap is_eq (tied_itself row_cmp_total a)

same_back : (a b : List Value) → same_row a b ≡ same_row b a
same_back a b = ap is_eq (row_cmp_total.antisymm a b) ∙ is_eq_reversed (row_cmp b a)

less_or : (o : Ordering) → is_lt o ≡ false → (o ≡ Equal → ⊥) → is_lt (ordering_reverse o) ≡ true
less_or Less behind other = (cc)
less_or Equal behind other = absurd (other refl)
less_or Greater behind other = refl

module _ (columns : List ℕ) where
  abbrev cmp : List Value → List Value → Ordering
  cmp = rows_by_columns columns

  ascends_kept : (test : List Value → Bool) (rows : List (List Value)) → Ascends cmp rows → Ascends cmp (filter test rows)
  ascends_kept test [] up = tt
  ascends_kept test (row ∷ rows) up =
      by (test row) (all_kept (λ y. is_lt (cmp y row) ≡ false) test rows up.0) (ascends_kept test rows up.1)
    where
      by : (b : Bool) → AllByRecursion (λ y. is_lt (cmp y row) ≡ false) (filter test rows) → Ascends cmp (filter test rows)
          → Ascends cmp (cond b (row ∷ filter test rows) (filter test rows))
      by true all later = (all, later)
      by false all later = later

  ascends_one_of_each : (rows : List (List Value)) → Ascends cmp rows → Ascends cmp (one_of_each rows)
  ascends_one_of_each [] up = tt
  ascends_one_of_each (row ∷ rows) up =
      let behind = λ (y : List Value). is_lt (cmp y row) ≡ false in
      let others = λ (other : List Value). not (same_row row other) in
      (all_kept behind others (one_of_each rows) (all_one_of_each behind rows up.0), ascends_kept others (one_of_each rows) (ascends_one_of_each rows up.1))

  -- An element greater than the one before it differs from all earlier ones.
  is_other : (k x z : List Value) → is_lt (cmp x k) ≡ false → same_row x k ≡ false → is_lt (cmp z x) ≡ false → not (same_row k z) ≡ true
  is_other k x z behind other later = by (same_row k z) refl
    where
      less : is_lt (cmp k x) ≡ true
      less = ap is_lt ((shown_total columns).antisymm k x)
          ∙ less_or (cmp x k) behind (λ tie. false≢true (sym other ∙ (λ i. same_row x (sym (shown_exact columns x k tie) i)) ∙ same_itself x))

      by : (b : Bool) → same_row k z ≡ b → not b ≡ true
      by true is = absurd (false≢true (sym later ∙ (λ i. is_lt (cmp (sym (same_means k z is) i) x)) ∙ less))
      by false is = refl

  deduped_from : (k : List Value) (rows : List (List Value)) → Ascends cmp (k ∷ rows) → dedup_from same_row k rows ≡ one_of_each (k ∷ rows)
  deduped_from k [] up = refl
  deduped_from k (x ∷ rows) up = by (same_row x k) refl (deduped_from k rows (up.0.1, up.1.1)) (deduped_from x rows up.1)
    where
      by : (b : Bool) → same_row x k ≡ b → dedup_from same_row k rows ≡ one_of_each (k ∷ rows) → dedup_from same_row x rows ≡ one_of_each (x ∷ rows)
          → cond b (dedup_from same_row k rows) (k ∷ dedup_from same_row x rows) ≡ one_of_each (k ∷ x ∷ rows)
      by true is here later =
          let others = λ (other : List Value). not (same_row k other) in
          let dropped : not (same_row k x) ≡ false = ap not (same_back k x ∙ is) in
          let twice : filter others (filter (λ other. not (same_row x other)) (one_of_each rows)) ≡ filter others (one_of_each rows) =
          (λ i. filter others (filter (λ other. not (same_row (same_means x k is i) other)) (one_of_each rows))) ∙ kept_twice others (one_of_each rows) in
          here ∙ sym (λ i. k ∷ cond (dropped i) (x ∷ filter others (filter (λ other. not (same_row x other)) (one_of_each rows))) (twice i))
      by false is here later =
          let apart = λ (z : List Value). not (same_row k z) ≡ true in
          let all : AllByRecursion apart (x ∷ rows) =
          (is_other k x x up.0.0 is (ap is_lt (tied_itself (shown_total columns) x)), AllByRecursion-weaker (λ z. is_other k x z up.0.0 is) rows up.1.0) in
          ap (λ l. k ∷ l) (later ∙ sym (kept_all (λ other. not (same_row k other)) (one_of_each (x ∷ rows)) (all_one_of_each apart (x ∷ rows) all)))

  deduped : (rows : List (List Value)) → Ascends cmp rows → dedup same_row rows ≡ one_of_each rows
  deduped [] up = refl
  deduped (row ∷ rows) up = deduped_from row rows up

  one_in_order : (rows sorted : List (List Value)) → IsPermutation rows sorted → Ascends cmp sorted → in_order cmp (one_of_each rows) ≡ one_of_each sorted
  one_in_order rows sorted moved up =
      in_order_by_counts (shown_total columns) (shown_exact columns) same_row same_means same_itself (one_of_each rows) (one_of_each sorted)
      (ascends_one_of_each sorted up)
      (λ row. one_counted rows row ∙ (ap (λ b. cond b 1 0) (list_any-IsPermutation (same_row row) rows sorted moved) ∙ sym (one_counted sorted row)))

  -- Sorted rows are the result of ordering any permutation of them, ..
  pub sorted_is_in_order : (rows sorted : List (List Value)) → IsPermutation rows sorted → IsSorted cmp sorted → in_order cmp rows ≡ sorted
  sorted_is_in_order rows sorted moved up =
      in_order_by_counts (shown_total columns) (shown_exact columns) same_row same_means same_itself rows sorted
      (ascends_from_sorted (shown_total columns) sorted up)
      (λ row. sym (sum_by-IsPermutation (λ a. cond (same_row row a) 1 0) rows sorted moved))

  -- .. and without equal neighbours they are one of each, in order.
  pub deduped_is_in_order : (rows sorted : List (List Value)) → IsPermutation rows sorted → IsSorted cmp sorted
      → in_order cmp (one_of_each rows) ≡ dedup same_row sorted
  deduped_is_in_order rows sorted moved up =
      let ascends = ascends_from_sorted (shown_total columns) sorted up in
      one_in_order rows sorted moved ascends ∙ sym (deduped sorted ascends)

  in_order_sorted : (rows : List (List Value)) → IsSorted cmp (in_order cmp rows)
  in_order_sorted = IsSorted-in_order (shown_total columns)

  -- The shown rows do not depend on the order in which the rows are given, ..
  pub shown_of_permutation : (a b : List (List Value)) → IsPermutation a b → in_order cmp a ≡ in_order cmp b
  shown_of_permutation a b moved =
      sorted_is_in_order a (in_order cmp b) (IsPermutation-trans a b (in_order cmp b) moved (IsPermutation-in_order cmp b)) (in_order_sorted b)

  -- .. nor does one of each row, ..
  pub shown_once_of_permutation : (a b : List (List Value)) → IsPermutation a b → in_order cmp (one_of_each a) ≡ in_order cmp (one_of_each b)
  shown_once_of_permutation a b moved =
      deduped_is_in_order a (in_order cmp b) (IsPermutation-trans a b (in_order cmp b) moved (IsPermutation-in_order cmp b)) (in_order_sorted b)
      ∙ sym (deduped_is_in_order b (in_order cmp b) (IsPermutation-in_order cmp b) (in_order_sorted b))

  -- .. and one of each row, in order, are the ordered rows without equal neighbours.
  pub shown_once_is_dedup : (rows : List (List Value)) → in_order cmp (one_of_each rows) ≡ dedup same_row (in_order cmp rows)
  shown_once_is_dedup rows = deduped_is_in_order rows (in_order cmp rows) (IsPermutation-in_order cmp rows) (in_order_sorted rows)
