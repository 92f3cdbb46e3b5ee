-- Rows with the same key: which lists have two, in any order.
use Rattle.std.proofs.Common.{◌≡◌, ℕ, suc, ◌+◌, ◌<◌, ◌≤◌, Bool, true, false, cond, ◌||◌, List, [], ◌∷◌, ◌++◌, length, get_or, inl, inr, refl, sym, ap, ◌∙◌}
use Rattle.std.proofs.Common.{arith, add-one}
use Rattle.std.specs.Cmp.{IsTotalOrder}
use Rattle.std.specs.Cmp.Lexicographic.{options_total}
use Rattle.std.specs.List.{AllByRecursion, list_any, count_by}
use Rattle.std.specs.List.Sorted.{IsStrictlySortedBy, IsPermutation, IsSorted}
use Rattle.std.specs.Ordering.{is_eq, is_lt, ordering_reverse}
use Rattle.std.specs.declared.cmp.Ordering.TheVariants.{Less}
use Rattle.std.specs.Prelude.{slice_get}
use Rattle.std.proofs.lemmas.Bool.{or_parts, or_from, cases_Bool}
use Rattle.std.proofs.lemmas.Cmp.{on_total, tied_itself}
use Rattle.std.proofs.lemmas.List.Folds.{list_any-append}
use Rattle.std.proofs.lemmas.List.Sums.{sum_by-cons}
use Rattle.std.proofs.lemmas.List.Sorted.{sum_by-IsPermutation}
use Rattle.mm_schema.specs.Rows.{column_cmp, same_in_column, has_duplicate_keys}
use Rattle.mm_value.specs.declared.values.Value.{Value}
use Rattle.mm_value.proofs.Orders.{value_cmp_total}
use Rattle.mm_schema.proofs.Orderings.{is_eq_reversed, equal_from_is_eq, less_from_no_tie}
use Rattle.mm_schema.proofs.StrictOrder.{IsStrictlySortedBy-nil, IsStrictlySortedBy-cons, IsStrictlySortedBy-head, IsStrictlySortedBy-tail}
use Rattle.mm_schema.proofs.StrictOrder.{IsStrictlySortedBy-before}

-- a row as its list of values
abbrev pub Row : Type 0
Row = List Value

-- a column orders rows totally
pub column_cmp_total : (key : ℕ) → IsTotalOrder (column_cmp key)
column_cmp_total key = on_total (λ (row : Row). slice_get row key) (options_total value_cmp_total)

same_false : (s t : Bool) → (s ≡ false → t ≡ false) → (t ≡ false → s ≡ false) → s ≡ t
same_false true true f g = refl
same_false true false f g = g refl
same_false false t f g = sym (f refl)

pub same_in_column_comm : (key : ℕ) (a b : Row) → same_in_column key a b ≡ same_in_column key b a
same_in_column_comm key a b = ap is_eq ((column_cmp_total key).antisymm a b) ∙ is_eq_reversed (column_cmp key b a)

-- rows with the same key compare alike with others
pub alike : (key : ℕ) (a b c : Row) → same_in_column key a b ≡ true → same_in_column key a c ≡ same_in_column key b c
alike key a b c same = ap is_eq ((column_cmp_total key).congr a b c (equal_from_is_eq (column_cmp key a b) same))

-- ---- counts

-- the number of rows with the key of one row
count_of : ℕ → Row → List Row → ℕ
count_of key row rows = count_by (same_in_column key row) rows

count_of-cons : (key : ℕ) (row r : Row) (rs : List Row) → count_of key row (r ∷ rs) ≡ cond (same_in_column key row r) 1 0 + count_of key row rs
unfolding count_of
count_of-cons key row r rs = sum_by-cons (λ x. cond (same_in_column key row x) 1 0) r rs

count_of-le : (key : ℕ) (row r : Row) (rs : List Row) → count_of key row rs ≤ count_of key row (r ∷ rs)
count_of-le key row r rs = omega (arith, count_of-cons key row r rs)

count_of-yes : (key : ℕ) (row r : Row) (rs : List Row) → same_in_column key row r ≡ true → count_of key row (r ∷ rs) ≡ 1 + count_of key row rs
count_of-yes key row r rs same = count_of-cons key row r rs ∙ ap (λ b. cond b 1 0 + count_of key row rs) same

count_of-no : (key : ℕ) (row r : Row) (rs : List Row) → same_in_column key row r ≡ false → count_of key row (r ∷ rs) ≡ count_of key row rs
count_of-no key row r rs other =
    let step : count_of key row (r ∷ rs) ≡ 0 + count_of key row rs = count_of-cons key row r rs ∙ ap (λ b. cond b 1 0 + count_of key row rs) other in
    omega arith

count_of-nil : (key : ℕ) (row : Row) → count_of key row [] ≡ 0
unfolding count_of
count_of-nil key row = refl

none_counted : (key : ℕ) (row : Row) (rows : List Row) → list_any (same_in_column key row) rows ≡ false → count_of key row rows ≡ 0
none_counted key row [] none = count_of-nil key row
none_counted key row (r ∷ rs) none =
    let parts = or_parts (same_in_column key row r) (list_any (same_in_column key row) rs) none in
    count_of-no key row r rs parts.0 ∙ none_counted key row rs parts.1

none_from_count : (key : ℕ) (row : Row) (rows : List Row) → count_of key row rows ≡ 0 → list_any (same_in_column key row) rows ≡ false
none_from_count key row [] zero_count = refl
none_from_count key row (r ∷ rs) zero_count =
    let split = cases_Bool (same_in_column key row r) in
    let rest : count_of key row rs ≡ 0 = omega (arith, count_of-le key row r rs) in
    let other : same_in_column key row r ≡ false = elim split [
      | inl same ↦ absurd (omega (arith, count_of-yes key row r rs same))
      | inr other ↦ other
    ] in
    or_from _ _ other (none_from_count key row rs rest)

alike_count : (key : ℕ) (a b : Row) (rows : List Row) → same_in_column key a b ≡ true → count_of key a rows ≡ count_of key b rows
alike_count key a b [] same = count_of-nil key a ∙ sym (count_of-nil key b)
alike_count key a b (r ∷ rs) same =
    let here : ◌≡◌ {A = ℕ} (cond (same_in_column key a r) 1 0) (cond (same_in_column key b r) 1 0) = ap (λ t. cond t 1 0) (alike key a b r same) in
    omega (arith, here, count_of-cons key a r rs, count_of-cons key b r rs, alike_count key a b rs same)

-- without duplicates each key occurs at most once ..
counted_once : (key : ℕ) (rows : List Row) → has_duplicate_keys key rows ≡ false → (row : Row) → count_of key row rows ≤ 1
counted_once key [] none row = omega (arith, count_of-nil key row)
counted_once key (r ∷ rs) none row =
    let parts = or_parts (list_any (same_in_column key r) rs) (has_duplicate_keys key rs) none in
    let rest : count_of key row rs ≤ 1 = counted_once key rs parts.1 row in
    elim (cases_Bool (same_in_column key row r)) [
      | inl same ↦ omega (arith, count_of-yes key row r rs same, alike_count key row r rs same, none_counted key r rs parts.0)
      | inr other ↦ omega (arith, count_of-no key row r rs other)
    ]

-- .. and if each key occurs at most once there are no duplicates
no_duplicates_from_counts : (key : ℕ) (rows : List Row) → ((row : Row) → count_of key row rows ≤ 1) → has_duplicate_keys key rows ≡ false
no_duplicates_from_counts key [] once = refl
no_duplicates_from_counts key (r ∷ rs) once =
    let itself : same_in_column key r r ≡ true = ap is_eq (tied_itself (column_cmp_total key) r) in
    let alone : count_of key r rs ≡ 0 = omega (arith, once r, count_of-yes key r r rs itself) in
    or_from _ _ (none_from_count key r rs alone) (no_duplicates_from_counts key rs (λ row. omega (arith, once row, count_of-le key row r rs)))

count_of-IsPermutation : (key : ℕ) (row : Row) (xs ys : List Row) → IsPermutation xs ys → count_of key row ys ≡ count_of key row xs
unfolding count_of
count_of-IsPermutation key row xs ys moved = sum_by-IsPermutation (λ x. cond (same_in_column key row x) 1 0) xs ys moved

-- a permutation changes nothing
pub has_duplicate_keys-IsPermutation : (key : ℕ) (xs ys : List Row) → IsPermutation xs ys → has_duplicate_keys key xs ≡ has_duplicate_keys key ys
has_duplicate_keys-IsPermutation key xs ys moved =
    same_false _ _
    (λ none. no_duplicates_from_counts key ys (λ row. omega (arith, counted_once key xs none row, count_of-IsPermutation key row xs ys moved)))
    (λ none. no_duplicates_from_counts key xs (λ row. omega (arith, counted_once key ys none row, count_of-IsPermutation key row xs ys moved)))

-- ---- rows in key order

none_below : (key : ℕ) (row : Row) (rows : List Row) → AllByRecursion (λ r. column_cmp key row r ≡ Less) rows → list_any (same_in_column key row) rows ≡ false
none_below key row [] below = refl
none_below key row (r ∷ rs) below = or_from _ _ (ap is_eq below.0) (none_below key row rs below.1)

-- rows in key order have no duplicates
pub no_duplicates_in_order : (key : ℕ) (rows : List Row) → IsStrictlySortedBy (column_cmp key) rows → has_duplicate_keys key rows ≡ false
no_duplicates_in_order key [] order = refl
no_duplicates_in_order key (r ∷ rs) order =
    or_from _ _ (none_below key r rs (IsStrictlySortedBy-head (column_cmp_total key) r rs order))
    (no_duplicates_in_order key rs (IsStrictlySortedBy-tail (column_cmp_total key) r rs order))

-- no row is less than the previous one
NoneFalls : ℕ → List Row → Type 0
NoneFalls key rows = (k : ℕ) (d : Row) → suc k < length rows → is_lt (column_cmp key (get_or rows (suc k) d) (get_or rows k d)) ≡ false

in_order_from_none_falls : (key : ℕ) (rows : List Row) → NoneFalls key rows → has_duplicate_keys key rows ≡ false → IsStrictlySortedBy (column_cmp key) rows
unfolding NoneFalls
in_order_from_none_falls key [] sorted none = IsStrictlySortedBy-nil (column_cmp_total key)
in_order_from_none_falls key (x ∷ []) sorted none =
    IsStrictlySortedBy-cons (column_cmp_total key) x [] tt (IsStrictlySortedBy-nil (column_cmp_total key))
in_order_from_none_falls key (x ∷ y ∷ ys) sorted none =
    let parts = or_parts (list_any (same_in_column key x) (y ∷ ys)) (has_duplicate_keys key (y ∷ ys)) none in
    let no_tie : same_in_column key x y ≡ false = (or_parts (same_in_column key x y) (list_any (same_in_column key x) ys) parts.0).0 in
    let not_less : is_lt (ordering_reverse (column_cmp key x y)) ≡ false = sym (ap is_lt ((column_cmp_total key).antisymm y x)) ∙ sorted 0 x (omega arith) in
    let less : column_cmp key x y ≡ Less = less_from_no_tie (column_cmp key x y) no_tie not_less in
    IsStrictlySortedBy-before (column_cmp_total key) x y ys less (in_order_from_none_falls key (y ∷ ys) (λ k d within. sorted (suc k) d (omega arith)) parts.1)

-- sorted rows without duplicates are in key order
pub in_order_from_sorted : (key : ℕ) (rows : List Row) → IsSorted (column_cmp key) rows → has_duplicate_keys key rows ≡ false
    → IsStrictlySortedBy (column_cmp key) rows
unfolding NoneFalls
in_order_from_sorted key rows sorted none =
    in_order_from_none_falls key rows (λ k d within. rw (← add-one) (sorted k d (omega arith) (omega arith))) none

-- ---- two lists

none_of : (key : ℕ) (row : Row) (xs ys : List Row) → list_any (same_in_column key row) (xs ++ ys) ≡ false
    → (list_any (same_in_column key row) xs ≡ false) × (list_any (same_in_column key row) ys ≡ false)
none_of key row xs ys none = or_parts _ _ (sym (list_any-append (same_in_column key row) xs ys) ∙ none)

-- without duplicates no row of a list has the key of a later row
pub apart_from_no_duplicates : (key : ℕ) (front : List Row) (x : Row) (middle : List Row) (y : Row) (back : List Row)
    → has_duplicate_keys key ((front ++ x ∷ []) ++ ((middle ++ y ∷ []) ++ back)) ≡ false → same_in_column key x y ≡ false
apart_from_no_duplicates key [] x middle y back none =
    let here = or_parts (list_any (same_in_column key x) ((middle ++ y ∷ []) ++ back)) (has_duplicate_keys key ((middle ++ y ∷ []) ++ back)) none in
    let inside = none_of key x (middle ++ y ∷ []) back here.0 in
    let last = none_of key x middle (y ∷ []) inside.0 in
    (or_parts (same_in_column key x y) false last.1).0
apart_from_no_duplicates key (z ∷ front) x middle y back none =
    apart_from_no_duplicates key front x middle y back (or_parts (list_any (same_in_column key z) ((front ++ x ∷ []) ++ ((middle ++ y ∷ []) ++ back))) _ none).1

list_any-or : {X : Type 0} (p q : X → Bool) (xs : List X) → list_any (λ x. p x || q x) xs ≡ (list_any p xs || list_any q xs)
list_any-or p q [] = refl
list_any-or p q (x ∷ xs) = ap (λ b. (p x || q x) || b) (list_any-or p q xs) ∙ regrouped (p x) (q x) (list_any p xs) (list_any q xs)
  where
    regrouped : (a b c d : Bool) → ((a || b) || (c || d)) ≡ ((a || c) || (b || d))
    regrouped true b c d = refl
    regrouped false true true d = refl
    regrouped false true false d = refl
    regrouped false false c d = refl

pub list_any-agree : {X : Type 0} (p q : X → Bool) → ((x : X) → p x ≡ q x) → (xs : List X) → list_any p xs ≡ list_any q xs
list_any-agree p q same [] = refl
list_any-agree p q same (x ∷ xs) = ap (λ b. b || list_any p xs) (same x) ∙ ap (λ b. q x || b) (list_any-agree p q same xs)

list_any-nothing : {X : Type 0} (xs : List X) → list_any (λ (x : X). false) xs ≡ false
list_any-nothing [] = refl
list_any-nothing (x ∷ xs) = list_any-nothing xs

-- two lists in key order have duplicates if and only if a row of the second has the key of a row of the first
pub has_duplicate_keys-append : (key : ℕ) (old fresh : List Row) → IsStrictlySortedBy (column_cmp key) old → IsStrictlySortedBy (column_cmp key) fresh
    → has_duplicate_keys key (old ++ fresh) ≡ list_any (λ row. list_any (same_in_column key row) old) fresh
has_duplicate_keys-append key [] fresh first second = no_duplicates_in_order key fresh second ∙ sym (list_any-nothing fresh)
has_duplicate_keys-append key (o ∷ old) fresh first second =
    let none : list_any (same_in_column key o) old ≡ false = none_below key o old (IsStrictlySortedBy-head (column_cmp_total key) o old first) in
    let here : list_any (same_in_column key o) (old ++ fresh) ≡ list_any (λ row. same_in_column key row o) fresh =
    list_any-append (same_in_column key o) old fresh ∙ ap (λ b. b || list_any (same_in_column key o) fresh) none ∙ list_any-agree
    (same_in_column key o) (λ row. same_in_column key row o) (λ row. same_in_column_comm key o row) fresh in
    let later : has_duplicate_keys key (old ++ fresh) ≡ list_any (λ row. list_any (same_in_column key row) old) fresh = has_duplicate_keys-append key old fresh
    (IsStrictlySortedBy-tail (column_cmp_total key) o old first) second in
    ap (λ b. b || has_duplicate_keys key (old ++ fresh)) here ∙ ap (λ b. list_any (λ row. same_in_column key row o) fresh || b) later
    ∙ sym (list_any-or (λ row. same_in_column key row o) (λ row. list_any (same_in_column key row) old) fresh)
