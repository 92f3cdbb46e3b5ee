-- Sorted positions have sorted rows.
use Rattle.std.proofs.Common.{◌≡◌, ℕ, ◌+◌, ◌<◌, ◌≤◌, Bool, true, false, All, cond, List, [], ◌∷◌, drop, get_or, length, map, take}
use Rattle.std.proofs.Common.{refl, sym, ap, ◌∙◌, subst, arith}
use Rattle.std.specs.Cmp.{IsTotalOrder, nat_cmp_total, on_total, then_total}
use Rattle.std.specs.List.{dedup, dedup_from}
use Rattle.std.specs.List.Sorted.{IsPermutation, IsSorted}
use Rattle.std.specs.Ordering.{is_lt, nat_cmp, ordering_then}
use Rattle.std.specs.Prelude.{◌==◌, nat_lt}
use Rattle.std.specs.declared.cmp.Ordering.{Ordering}
use Rattle.std.specs.declared.cmp.Ordering.TheVariants.{Less, Equal, Greater}
use Rattle.std.proofs.lemmas.Bool.Decides.{nat_tests}
use Rattle.std.proofs.lemmas.Cmp.{tied_itself}
use Rattle.std.proofs.lemmas.List.{drop-map, get_or-map, length-map, take-map}
use Rattle.std.proofs.lemmas.List.Sorted.{All-permutation, IsPermutation-map}
use Rattle.mm_value.specs.Views.{value_of}
use Rattle.mm_value.specs.declared.value_ref.ValueRef.{ValueRef}
use Rattle.mm_value.specs.Order.{row_cmp, value_cmp}
use Rattle.mm_value.specs.declared.values.Value.{Value}
use Rattle.mm_value.proofs.Orders.{value_cmp_exact}
use Rattle.mm_value.proofs.Prefixes.{prefixes_keep}
use Rattle.mm_value.specs.Prefix.{order_prefix}
use Rattle.mm_schema.specs.Sorting.{in_order}
use Rattle.mm_query.specs.Queries.{one_of_each, rows_by_columns, same_row, sort_key}
use Rattle.mm_laws.proofs.QueryLaws.{shown_total}
use Rattle.mm_laws.proofs.SortedRows.{deduped_is_in_order, sorted_is_in_order}
use Rattle.mm_templist.specs.Runs.{leading_prefix, referred, run_from}
use Rattle.mm_templist.specs.Shown.{HasPrefix, placed_cmp, placed_row}
use Rattle.mm_templist.specs.declared.shown.Placed.{Placed}

-- The row from a position on is that part of all values.
pub run_is_piece : (width : ℕ) (refs : List ValueRef) (start : ℕ) → run_from width refs start ≡ take width (drop start (referred refs))
run_is_piece width refs start =
    sym (take-map value_of width (drop start refs)) ∙ ap (take width) (sym (drop-map value_of start refs))

-- ---- prefixes

-- A sort key that is less has a prefix that is not greater.
pub leading_keeps : (a b : List Value) → row_cmp a b ≡ Less → leading_prefix a ≤ leading_prefix b
leading_keeps [] b less = omega arith
leading_keeps (x ∷ xs) [] less = cc
leading_keeps (x ∷ xs) (y ∷ ys) less = by (value_cmp x y) refl
  where
    by : (o : Ordering) → value_cmp x y ≡ o → order_prefix x ≤ order_prefix y
    by Less is = prefixes_keep x y is
    by Equal is = subst (λ v. order_prefix x ≤ order_prefix v) (value_cmp_exact x y is) (omega arith)
    by Greater is =
        let other : row_cmp (x ∷ xs) (y ∷ ys) ≡ Greater = ap (λ o. ordering_then o (row_cmp xs ys)) is in
        cc

then_less : (m n : ℕ) (o : Ordering) → m ≤ n → o ≡ Less → ordering_then (nat_cmp m n) o ≡ Less
then_less m n o ordered is = by (nat_lt m n) refl
  where
    by : (b : Bool) → nat_lt m n ≡ b → ordering_then (nat_cmp m n) o ≡ Less
    by true below = λ i. ordering_then (cond (below i) Less (cond (m == n) Equal Greater)) o
    by false below =
        let same : m ≡ n = grind (arith, nat_tests) in
        (λ i. ordering_then (nat_cmp m (sym same i)) o) ∙ (ap (λ c. ordering_then c o) (tied_itself nat_cmp_total m) ∙ is)

-- ---- neighbours

module _ {X Y : Type 0} (f : X → Y) (same : Y → Y → Bool) where
  abbrev alike : X → X → Bool
  alike a b = same (f a) (f b)

  mapped_from : (k : X) (xs : List X) → map f (dedup_from alike k xs) ≡ dedup_from same (f k) (map f xs)
  mapped_from k [] = refl
  mapped_from k (x ∷ xs) = by (same (f x) (f k)) (mapped_from k xs) (mapped_from x xs)
    where
      by : (b : Bool) → map f (dedup_from alike k xs) ≡ dedup_from same (f k) (map f xs) → map f (dedup_from alike x xs) ≡ dedup_from same (f x) (map f xs)
          → map f (cond b (dedup_from alike k xs) (k ∷ dedup_from alike x xs))
          ≡ cond b (dedup_from same (f k) (map f xs)) (f k ∷ dedup_from same (f x) (map f xs))
      by true here later = here
      by false here later = ap (λ l. f k ∷ l) later

  mapped_dedup : (xs : List X) → map f (dedup alike xs) ≡ dedup same (map f xs)
  mapped_dedup [] = refl
  mapped_dedup (x ∷ xs) = mapped_from x xs

-- ---- rows

module _ (order : List ℕ) (width : ℕ) (refs : List ValueRef) where
  abbrev row : Placed → List Value
  row = placed_row width refs

  pub placed_total : IsTotalOrder (placed_cmp order width refs)
  placed_total = then_total (on_total (λ (p : Placed). p.prefix) nat_cmp_total) (on_total (placed_row width refs) (shown_total order))

  -- If a position is not before another one, its row is not before the other row.
  not_before : (p q : Placed) → HasPrefix order width refs p → HasPrefix order width refs q → is_lt (placed_cmp order width refs p q) ≡ false
      → is_lt (rows_by_columns order (row p) (row q)) ≡ false
  not_before p q first second behind = by (rows_by_columns order (row p) (row q)) refl
    where
      by : (o : Ordering) → rows_by_columns order (row p) (row q) ≡ o → is_lt o ≡ false
      by Less is =
          let ordered : p.prefix ≤ q.prefix =
          subst (λ n. n ≤ q.prefix) (sym first)
          (subst (λ n. leading_prefix (sort_key order (row p)) ≤ n) (sym second) (leading_keeps (sort_key order (row p)) (sort_key order (row q)) is)) in
          sym (ap is_lt (then_less p.prefix q.prefix (rows_by_columns order (row p) (row q)) ordered is)) ∙ behind
      by Equal is = refl
      by Greater is = refl

  rows_sorted : (places : List Placed) → All (HasPrefix order width refs) places → IsSorted (placed_cmp order width refs) places
      → IsSorted (rows_by_columns order) (map row places)
  rows_sorted places numbered sorted = λ k d low within.
      let first : Placed = record { prefix = 0; start = 0 } in
      let next : k + 1 < length places = omega (arith, within, length-map places row) in
      rw (get_or-map row places k first d (omega arith), get_or-map row places (k + 1) first d next)
      (not_before (get_or places (k + 1) first) (get_or places k first) (numbered (k + 1) first next) (numbered k first (omega arith))
      (sorted k first (omega arith) next))

  module _ (projected : List (List Value)) (places sorted : List Placed) (rows : map row places ≡ projected)
      (numbered : All (HasPrefix order width refs) places) (moved : IsPermutation places sorted) (up : IsSorted (placed_cmp order width refs) sorted) where
    moved_rows : IsPermutation projected (map row sorted)
    moved_rows = subst (λ (l : List (List Value)). IsPermutation l (map row sorted)) rows (IsPermutation-map row places sorted moved)

    up_rows : IsSorted (rows_by_columns order) (map row sorted)
    up_rows = rows_sorted sorted (All-permutation (HasPrefix order width refs) places sorted moved numbered) up

    -- The rows of sorted positions are in order.
    pub placed_in_order : map row sorted ≡ in_order (rows_by_columns order) projected
    placed_in_order = sym (sorted_is_in_order order projected (map row sorted) moved_rows up_rows)

    -- Without equal neighbours they are in order, each once.
    pub placed_once_in_order : map row (dedup (λ a b. same_row (row a) (row b)) sorted) ≡ in_order (rows_by_columns order) (one_of_each projected)
    placed_once_in_order =
        mapped_dedup row same_row sorted ∙ sym (deduped_is_in_order order projected (map row sorted) moved_rows up_rows)
