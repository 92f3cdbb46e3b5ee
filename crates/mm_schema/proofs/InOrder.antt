-- Sorted lists have the same elements, in order; rows without duplicates are strictly in key order.
use Rattle.std.proofs.Common.{◌≡◌, ℕ, zero, suc, ◌<◌, true, false, List, [], ◌∷◌, length, get_or, inl, inr, sym, refl, ap, ◌∙◌, arith, add-one}
use Rattle.std.specs.Cmp.{IsTotalOrder}
use Rattle.std.specs.List.{AllByRecursion, list_any}
use Rattle.std.specs.List.Sorted.{IsStrictlySortedBy, IsPermutation, IsSorted}
use Rattle.std.specs.Ordering.{is_gt, is_lt, ordering_reverse}
use Rattle.std.specs.declared.cmp.Ordering.{Ordering}
use Rattle.std.specs.declared.cmp.Ordering.TheVariants.{Less, Equal, Greater}
use Rattle.std.proofs.lemmas.Bool.{or_parts, cases_Bool}
use Rattle.std.proofs.lemmas.List.Sorted.{IsPermutation-refl, IsPermutation-cons, IsPermutation-sym, IsPermutation-trans, IsPermutation-middle}
use Rattle.std.proofs.lemmas.List.Sorted.{Contains-permutation, list_any-IsPermutation}
use Rattle.mm_schema.specs.Rows.{column_cmp, same_in_column, has_duplicate_keys}
use Rattle.mm_schema.specs.Sorting.{put_in_order, in_order}
use Rattle.mm_schema.proofs.StrictOrder.{IsStrictlySortedBy-nil, IsStrictlySortedBy-cons, IsStrictlySortedBy-head, IsStrictlySortedBy-tail}
use Rattle.mm_schema.proofs.StrictOrder.{IsStrictlySortedBy-before, IsIn, IsIn-from_Contains, Contains-from_IsIn, same_from_elements, less_from_greater}
use Rattle.mm_schema.proofs.Orderings.{less_from_neither, greater_from_is_gt}
use Rattle.mm_schema.proofs.Duplicates.{Row, column_cmp_total, has_duplicate_keys-IsPermutation, no_duplicates_in_order, same_in_column_comm}

-- ---- the same elements

module _ {X : Type 0} (cmp : X → X → Ordering) where
  -- Inserting an element in order permutes it with the others.
  pub IsPermutation-put_in_order : (x : X) (xs : List X) → IsPermutation (x ∷ xs) (put_in_order cmp x xs)
  IsPermutation-put_in_order x [] = IsPermutation-refl (x ∷ [])
  IsPermutation-put_in_order x (y ∷ ys) =
      elim (cases_Bool (is_gt (cmp y x))) [
        | inl greater ↦ rw greater (IsPermutation-refl (x ∷ y ∷ ys))
        | inr other ↦
            rw other (IsPermutation-trans _ _ _ (IsPermutation-sym _ _ (IsPermutation-middle (y ∷ []) x ys))
            (IsPermutation-cons y (x ∷ ys) _ (IsPermutation-put_in_order x ys)))
      ]

  -- A sorted list has the same elements.
  pub IsPermutation-in_order : (xs : List X) → IsPermutation xs (in_order cmp xs)
  IsPermutation-in_order [] = IsPermutation-refl []
  IsPermutation-in_order (x ∷ xs) =
      IsPermutation-trans _ _ _ (IsPermutation-cons x xs _ (IsPermutation-in_order xs)) (IsPermutation-put_in_order x (in_order cmp xs))

-- ---- sorted

-- no element is less than the previous one, including one before the list
abbrev Rises : {X : Type 0} → (X → X → Ordering) → X → List X → Type 0
Rises cmp x [] = Unit {0}
Rises cmp x (y ∷ ys) = (is_lt (cmp y x) ≡ false) × Rises cmp y ys

-- the same for a list alone
abbrev RisesAll : {X : Type 0} → (X → X → Ordering) → List X → Type 0
RisesAll cmp [] = Unit {0}
RisesAll cmp (x ∷ xs) = Rises cmp x xs

not_less_from_greater : (o : Ordering) → is_gt o ≡ true → is_lt o ≡ false
not_less_from_greater Less e = (cc)
not_less_from_greater Equal e = (cc)
not_less_from_greater Greater e = refl

not_less_reversed : (o : Ordering) → is_gt o ≡ false → is_lt (ordering_reverse o) ≡ false
not_less_reversed Less e = refl
not_less_reversed Equal e = refl
not_less_reversed Greater e = (cc)

module _ {X : Type 0} {cmp : X → X → Ordering} (total : IsTotalOrder cmp) where
  not_less_from_not_greater : (x y : X) → is_gt (cmp y x) ≡ false → is_lt (cmp x y) ≡ false
  not_less_from_not_greater x y other = ap is_lt (total.antisymm x y) ∙ not_less_reversed (cmp y x) other

  Rises-put_in_order : (z x : X) (ys : List X) → is_lt (cmp x z) ≡ false → Rises cmp z ys → Rises cmp z (put_in_order cmp x ys)
  Rises-put_in_order z x [] behind rises = (behind, tt)
  Rises-put_in_order z x (y ∷ ys) behind rises =
      elim (cases_Bool (is_gt (cmp y x))) [
        | inl greater ↦ rw greater (behind, (not_less_from_greater (cmp y x) greater, rises.1))
        | inr other ↦ rw other (rises.0, Rises-put_in_order y x ys (not_less_from_not_greater x y other) rises.1)
      ]

  RisesAll-put_in_order : (x : X) (ys : List X) → RisesAll cmp ys → RisesAll cmp (put_in_order cmp x ys)
  RisesAll-put_in_order x [] rises = tt
  RisesAll-put_in_order x (y ∷ ys) rises =
      elim (cases_Bool (is_gt (cmp y x))) [
        | inl greater ↦ rw greater (not_less_from_greater (cmp y x) greater, rises)
        | inr other ↦ rw other (Rises-put_in_order y x ys (not_less_from_not_greater x y other) rises)
      ]

  RisesAll-in_order : (xs : List X) → RisesAll cmp (in_order cmp xs)
  RisesAll-in_order [] = tt
  RisesAll-in_order (x ∷ xs) = RisesAll-put_in_order x (in_order cmp xs) (RisesAll-in_order xs)

  neighbours : (x : X) (xs : List X) (k : ℕ) (d : X) → suc k < length (x ∷ xs) → Rises cmp x xs
      → is_lt (cmp (get_or (x ∷ xs) (suc k) d) (get_or (x ∷ xs) k d)) ≡ false
  neighbours x [] k d within rises = absurd (omega arith)
  neighbours x (y ∷ ys) zero d within rises = rises.0
  neighbours x (y ∷ ys) (suc k) d within rises = neighbours y ys k d (omega arith) rises.1

  IsSorted-from_RisesAll : (xs : List X) → RisesAll cmp xs → IsSorted cmp xs
  IsSorted-from_RisesAll [] rises = λ k d low within. absurd (omega arith)
  IsSorted-from_RisesAll (x ∷ xs) rises = λ k d low within. rw add-one (neighbours x xs k d (omega arith) rises)

  -- A sorted list is in order, even if elements compare as equal.
  pub IsSorted-in_order : (xs : List X) → IsSorted cmp (in_order cmp xs)
  IsSorted-in_order xs = IsSorted-from_RisesAll (in_order cmp xs) (RisesAll-in_order xs)

-- ---- rows in key order

module _ (key : ℕ) where
  each_put : (P : Row → Type 0) (row : Row) (rows : List Row) → P row → AllByRecursion P rows → AllByRecursion P (put_in_order (column_cmp key) row rows)
  each_put P row [] here all = (here, tt)
  each_put P row (r ∷ rs) here all =
      elim (cases_Bool (is_gt (column_cmp key r row))) [
        | inl greater ↦ rw greater (here, all)
        | inr other ↦ rw other (all.0, each_put P row rs here all.1)
      ]

  IsStrictlySortedBy-put_in_order : (row : Row) (rows : List Row) → list_any (same_in_column key row) rows ≡ false
      → IsStrictlySortedBy (column_cmp key) rows → IsStrictlySortedBy (column_cmp key) (put_in_order (column_cmp key) row rows)
  IsStrictlySortedBy-put_in_order row [] none order =
      IsStrictlySortedBy-cons (column_cmp_total key) row [] tt (IsStrictlySortedBy-nil (column_cmp_total key))
  IsStrictlySortedBy-put_in_order row (r ∷ rs) none order =
      let parts = or_parts (same_in_column key row r) (list_any (same_in_column key row) rs) none in
      let no_tie : same_in_column key r row ≡ false = same_in_column_comm key r row ∙ parts.0 in
      elim (cases_Bool (is_gt (column_cmp key r row))) [
        | inl greater ↦ rw greater
            (IsStrictlySortedBy-before (column_cmp_total key) row r rs
            (less_from_greater (column_cmp_total key) r row (greater_from_is_gt (column_cmp key r row) greater)) order)
        | inr other ↦ rw other
            (IsStrictlySortedBy-cons (column_cmp_total key) r (put_in_order (column_cmp key) row rs)
            (each_put (λ x. column_cmp key r x ≡ Less) row rs (less_from_neither (column_cmp key r row) no_tie other)
            (IsStrictlySortedBy-head (column_cmp_total key) r rs order))
            (IsStrictlySortedBy-put_in_order row rs parts.1 (IsStrictlySortedBy-tail (column_cmp_total key) r rs order)))
      ]

  -- without duplicates the sorted rows are in key order
  pub IsStrictlySortedBy-in_order : (rows : List Row) → has_duplicate_keys key rows ≡ false
      → IsStrictlySortedBy (column_cmp key) (in_order (column_cmp key) rows)
  IsStrictlySortedBy-in_order [] none = IsStrictlySortedBy-nil (column_cmp_total key)
  IsStrictlySortedBy-in_order (r ∷ rs) none =
      let parts = or_parts (list_any (same_in_column key r) rs) (has_duplicate_keys key rs) none in
      let moved : list_any (same_in_column key r)
      (in_order (column_cmp key) rs) ≡ false = sym (list_any-IsPermutation (same_in_column key r) rs (in_order (column_cmp key) rs)
      (IsPermutation-in_order (column_cmp key) rs)) ∙ parts.0 in
      IsStrictlySortedBy-put_in_order r (in_order (column_cmp key) rs) moved (IsStrictlySortedBy-in_order rs parts.1)

  in_from_permutation : (xs ys : List Row) → IsPermutation xs ys → (row : Row) → IsIn row xs → IsIn row ys
  in_from_permutation xs ys moved row here =
      IsIn-from_Contains ys row (Contains-permutation xs ys row moved (Contains-from_IsIn xs row here))

  -- rows in key order are the result of sorting any permutation of them
  pub in_order_is : (rows ordered : List Row) → IsPermutation rows ordered → IsStrictlySortedBy (column_cmp key) ordered
      → in_order (column_cmp key) rows ≡ ordered
  in_order_is rows ordered moved order =
      let none : has_duplicate_keys key rows ≡ false = has_duplicate_keys-IsPermutation key rows ordered moved ∙ no_duplicates_in_order key ordered order in
      let between : IsPermutation (in_order (column_cmp key) rows) ordered = IsPermutation-trans _ _ _
      (IsPermutation-sym _ _ (IsPermutation-in_order (column_cmp key) rows)) moved in
      same_from_elements (column_cmp_total key) (in_order (column_cmp key) rows) ordered (IsStrictlySortedBy-in_order rows none) order
      (in_from_permutation _ _ between) (in_from_permutation _ _ (IsPermutation-sym _ _ between))
