-- The change of a bag is the sum of its terms.
use Rattle.std.proofs.Common.{◌≡◌, ℕ, zero, suc, ◌+◌, ◌<◌, ◌≤◌, ℤ, pos, ◌+ℤ◌, ◌-ℤ◌, Bool, true, false, cond, List, [], ◌∷◌, ◌++◌, length, map, take, drop}
use Rattle.std.proofs.Common.{refl, sym, ap, ◌∙◌, arith, get_or}
use Rattle.std.specs.List.{filter, fold, range_with_len, sum_by}
use Rattle.std.proofs.lemmas.Int.{ints}
use Rattle.std.proofs.lemmas.List.{length-map}
use Rattle.std.proofs.lemmas.List.Sums.{sum_by-cons, fold_push}
use Rattle.std.proofs.lemmas.List.FromFn.{map-range_with_len_more}
use Rattle.std.proofs.lemmas.Simd.{map-map}
use Rattle.mm_value.specs.declared.values.Value.{Value}
use Rattle.mm_query.specs.Queries.{bag_of, combinations, fits, projected, same_row}
use Rattle.mm_query.specs.declared.bound_query.BoundQuery.{BoundQuery}
use Rattle.mm_query.specs.declared.query.FromItem.{FromItem}
use Rattle.mm_delta.specs.Change.{change_between, change_of}
use Rattle.mm_multiset.specs.Counts.{count_of}
use Rattle.mm_delta.specs.Terms.{lists_around, names_of, term}
use Rattle.mm_delta.proofs.Sums.{Balance, products_balance, sum_by-map}

abbrev Row : Type 0
Row = List Value

abbrev Rows : Type 0
Rows = List Row

kept_or_not : {X : Type 0} (f : X → ℕ) (b : Bool) (x : X) (xs ys : List X) (n : ℕ) → sum_by f xs ≡ n
    → sum_by f (cond b (x ∷ xs) xs) ≡ cond b (f x) 0 + n
kept_or_not f true x xs ys n h = sum_by-cons f x xs ∙ ap (λ m. f x + m) h
kept_or_not f false x xs ys n h = omega (arith, h)

-- A sum over the elements that pass a test.
pub sum_by-filter : {X : Type 0} (f : X → ℕ) (p : X → Bool) (xs : List X) → sum_by f (filter p xs) ≡ sum_by (λ x. cond (p x) (f x) 0) xs
sum_by-filter f p [] = refl
sum_by-filter f p (x ∷ xs) =
    kept_or_not f (p x) x (filter p xs) xs _ (sum_by-filter f p xs) ∙ sym (sum_by-cons (λ y. cond (p y) (f y) 0) x xs)

-- The contribution of a combination to the count of a row.
abbrev pub weight : BoundQuery → Row → List Row → ℕ
weight q row c = cond (fits q c) (cond (same_row row (projected q c)) 1 0) 0

-- The count of a row is a sum over the product.
pub count_as_sum : (q : BoundQuery) (row : Row) (lists : List Rows) → count_of row (bag_of q lists) ≡ sum_by (weight q row) (combinations lists)
count_as_sum q row lists =
    sum_by-map _ (projected q) (filter (fits q) (combinations lists))
    ∙ sum_by-filter (λ c. cond (same_row row (projected q c)) 1 0) (fits q) (combinations lists)

module _ {T : Type 0} (missing : T) where
  -- The rows after the change at the first k places, and the rows before it at the others.
  abbrev pub half : (T → Rows) → (T → Rows) → List T → ℕ → List Rows
  half after before from k = map after (take k from) ++ map before (drop k from)

  half_at : (after before : T → Rows) (from : List T) (k : ℕ) → k < length from → half after before from k ≡ lists_around missing after before before from k
  half_at after before [] k h = absurd (omega arith)
  half_at after before (t ∷ ts) zero h = refl
  half_at after before (t ∷ ts) (suc k) h = ap (λ l. after t ∷ l) (half_at after before ts k (omega arith))

  half_past : (after before : T → Rows) (from : List T) (k : ℕ) → k < length from → half after before from (suc k)
      ≡ lists_around missing after after before from k
  half_past after before [] k h = absurd (omega arith)
  half_past after before (t ∷ ts) zero h = refl
  half_past after before (t ∷ ts) (suc k) h = ap (λ l. after t ∷ l) (half_past after before ts k (omega arith))

  pub half_all : (after before : T → Rows) (from : List T) → half after before from (length from) ≡ map after from
  half_all after before [] = refl
  half_all after before (t ∷ ts) = ap (λ l. after t ∷ l) (half_all after before ts)

fold_range_more : (g : ℕ → ℤ) (k : ℕ)
    → fold ◌+ℤ◌ (pos 0) (map g (range_with_len 0 (suc k))) ≡ fold ◌+ℤ◌ (pos 0) (map g (range_with_len 0 k)) +ℤ g k
fold_range_more g k =
    let one : suc k ≡ k + 1 = omega arith in
    ap (λ n. fold ◌+ℤ◌ (pos 0) (map g (range_with_len 0 n))) one
    ∙ ap (fold ◌+ℤ◌ (pos 0)) (map-range_with_len_more g 0 k k (omega arith))
    ∙ fold_push ◌+ℤ◌ (pos 0) (map g (range_with_len 0 k)) (g k)

telescope : (t next g : ℤ) (first here after come gone : ℕ) → t ≡ pos here -ℤ pos first → next ≡ t +ℤ g → g ≡ pos come -ℤ pos gone
    → after + gone ≡ here + come → next ≡ pos after -ℤ pos first
telescope t next g first here after come gone a b c d = omega (arith, ints)

nothing : (a : ℕ) → pos 0 ≡ pos a -ℤ pos a
nothing a = omega (arith, ints)

-- One place changed.
pub one_place : {T : Type 0} (missing : T) (q : BoundQuery) (before after gone come : T → Rows) (from : List T) (row : Row) (k : ℕ) → k < length from
    → Balance (after (get_or from k missing)) (gone (get_or from k missing)) (before (get_or from k missing)) (come (get_or from k missing))
    → count_of row (bag_of q (half missing after before from (suc k))) + count_of row (bag_of q (lists_around missing after gone before from k))
    ≡ count_of row (bag_of q (half missing after before from k)) + count_of row (bag_of q (lists_around missing after come before from k))
one_place missing q before after gone come from row k h balance =
    omega (
      arith,
      products_balance (map after (take k from)) (after (get_or from k missing)) (gone (get_or from k missing)) (before (get_or from k missing))
          (come (get_or from k missing))
          (map before (drop (suc k) from)) balance (weight q row),
      ap (λ l. count_of row (bag_of q l)) (half_at missing after before from k h),
      ap (λ l. count_of row (bag_of q l)) (half_past missing after before from k h),
      count_as_sum q row (lists_around missing after after before from k),
      count_as_sum q row (lists_around missing after gone before from k),
      count_as_sum q row (lists_around missing after before before from k),
      count_as_sum q row (lists_around missing after come before from k),
    )

module _ {T : Type 0} (missing : T) (q : BoundQuery) (before after gone come : T → Rows) (from : List T) (row : Row)
    (balance : (t : T) → Balance (after t) (gone t) (before t) (come t)) where
  abbrev pub part : ℕ → ℤ
  part k = change_between q (lists_around missing after gone before from k) (lists_around missing after come before from k) row

  first_places : (k : ℕ) → k ≤ length from
      → fold ◌+ℤ◌ (pos 0) (map part (range_with_len 0 k))
      ≡ pos (count_of row (bag_of q (half missing after before from k))) -ℤ pos (count_of row (bag_of q (map before from)))
  first_places zero h = nothing (count_of row (bag_of q (map before from)))
  first_places (suc k) h =
      telescope _ _ (part k) _ _ _ _ _
      (first_places k (omega arith)) (fold_range_more part k) refl
      (one_place missing q before after gone come from row k (omega arith) (balance (get_or from k missing)))

  -- The law, for tables with any identifiers.
  pub change_is_sum : change_between q (map before from) (map after from) row ≡ fold ◌+ℤ◌ (pos 0) (map part (range_with_len 0 (length from)))
  change_is_sum =
      ap (λ l. pos (count_of row (bag_of q l)) -ℤ pos (count_of row (bag_of q (map before from)))) (sym (half_all missing after before from))
      ∙ sym (first_places (length from) (omega arith))

-- The law, for tables with names.
pub change_by_names : (q : BoundQuery) (before after gone come : List ℕ → Rows) (row : Row) → ((t : List ℕ) → Balance (after t) (gone t) (before t) (come t))
    → change_of q before after row
    ≡ fold ◌+ℤ◌ (pos 0) (map (λ k. term q before after gone come k row) (range_with_len 0 (length q.from)))
change_by_names q before after gone come row balance =
    (λ i. change_between q (sym (map-map before (λ (item : FromItem). item.table) q.from) i) (sym (map-map after (λ (item : FromItem). item.table) q.from) i)
    row)
    ∙ change_is_sum [] q before after gone come (names_of q) row balance
    ∙ ap (λ n. fold ◌+ℤ◌ (pos 0) (map (λ k. term q before after gone come k row) (range_with_len 0 n))) (length-map q.from (λ (item : FromItem). item.table))
