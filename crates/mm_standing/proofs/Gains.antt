-- Reordered changes: those that add rows before those that remove rows.
use Rattle.std.proofs.Common.{◌≡◌, ◌≢◌, ℕ, zero, suc, ℤ, pos, ◌+◌, ◌+ℤ◌, ◌-ℤ◌, neg_ℤ, ◌≤◌, ◌<◌, ◌≤ℤ◌, ◌<ℤ◌, ◌^◌, ◌⊎◌, inl, inr, ⊎_elim, List, [], ◌∷◌, drop}
use Rattle.std.proofs.Common.{get_or, length, set, refl, sym, take, ap, ◌∙◌, subst, arith}
use Rattle.std.specs.List.{All, SwappedAt, swap}
use Rattle.std.specs.List.Sorted.{IsPermutation}
use Rattle.std.proofs.lemmas.Bool.{cases_eq}
use Rattle.std.proofs.lemmas.Int.{ints}
use Rattle.std.proofs.lemmas.List.{get_or-drop, get_or-set_other, get_or-set_same, get_or-take, length-drop, length-set, length-take}
use Rattle.std.proofs.lemmas.List.Elements.{All-cons, All-head, All-nil, All-tail}
use Rattle.std.proofs.lemmas.List.Sorted.{IsPermutation-keeps, IsPermutation-map}
use Rattle.std.proofs.lemmas.List.Sums.{count_by-le-length}
use Rattle.std.proofs.lemmas.Map.Keys.{IsDistinct-IsPermutation}
use Rattle.mm_value.specs.Equality.{same_row}
use Rattle.mm_value.specs.EqualityLaws.{same_row_equiv}
use Rattle.mm_value.specs.declared.values.Value.{Value}
use Rattle.mm_multiset.specs.Counts.{Entries, IsOnce, count_of, signed_count, total_of}
use Rattle.mm_multiset.specs.declared.signed.Signed.{Signed}
use Rattle.mm_standing.specs.Bags.{Brings, HasGainsFirst, sum_over}
use Rattle.mm_standing.specs.Queries.{IsBagOf}
use Rattle.mm_standing.proofs.Net.{IsOnceEach, count_dropped, counts_after, counts_behind, first_is, once_tail, pick, rows_in, sum_of, total_after}
use Rattle.mm_standing.proofs.Others.{Rows}
use Rattle.mm_standing.proofs.Totals.{total_is_length}
use Rattle.mm_schema.specs.Rows.{most_rows}

-- ---- sums of the same changes

-- One term is replaced.
sum_set : {X : Type 0} (f : X → ℤ) (xs : List X) (i : ℕ) (x d : X) → i < length xs → sum_over f (set xs i x) +ℤ f (get_or xs i d) ≡ sum_over f xs +ℤ f x
sum_set f [] i x d within = absurd (omega (arith, within))
sum_set f (y ∷ ys) zero x d within = turned (f x) (f y) (sum_over f ys)
  where
    turned : (a b s : ℤ) → (a +ℤ s) +ℤ b ≡ (b +ℤ s) +ℤ a
    turned a b s = omega (arith, ints)
sum_set f (y ∷ ys) (suc i) x d within =
    behind (f y) (sum_over f (set ys i x)) (f (get_or ys i d)) (sum_over f ys) (f x) (sum_set f ys i x d (omega (arith, within)))
  where
    behind : (a p q r s : ℤ) → p +ℤ q ≡ r +ℤ s → (a +ℤ p) +ℤ q ≡ (a +ℤ r) +ℤ s
    behind a p q r s e = omega (arith, ints)

sum_swapped : {X : Type 0} (f : X → ℤ) (xs : List X) (i j : ℕ) → i < length xs → j < length xs → sum_over f (swap xs i j) ≡ sum_over f xs
sum_swapped f [] i j p q = absurd (omega (arith, p))
sum_swapped {X} f (d ∷ ds) i j p q =
    let xs : List X = d ∷ ds in
    let mid : List X = set xs i (get_or xs j d) in
    let there : get_or mid j d ≡ get_or xs j d =
    ⊎_elim (λ e. ap (λ n. get_or mid n d) e ∙ get_or-set_same xs i (get_or xs j d) d p) (λ n. get_or-set_other xs i j (get_or xs j d) d n) (cases_eq j i) in
    both (sum_over f xs) (sum_over f mid) (sum_over f (set mid j (get_or xs i d))) (f (get_or xs i d)) (f (get_or xs j d)) (f (get_or mid j d))
    (sum_set f xs i (get_or xs j d) d p) (sum_set f mid j (get_or xs i d) d (subst (λ n. j < n) (sym (length-set xs i (get_or xs j d))) q)) (ap f there)
  where
    both : (s m t a b c : ℤ) → m +ℤ a ≡ s +ℤ b → t +ℤ c ≡ m +ℤ a → c ≡ b → t ≡ s
    both s m t a b c e g h = omega (arith, ints)

sum_permuted : {X : Type 0} (f : X → ℤ) (xs ys : List X) → IsPermutation xs ys → sum_over f ys ≡ sum_over f xs
sum_permuted f xs ys moved = IsPermutation-keeps xs (λ l. sum_over f l ≡ sum_over f xs) refl (λ l i j p q h. sum_swapped f l i j p q ∙ h) ys moved

count_is_sum : (row : List Value) (changes : List Signed) → signed_count row changes ≡ sum_over (λ (c : Signed). pick (same_row row c.row) c.count) changes
count_is_sum row [] = refl
count_is_sum row (c ∷ cs) = ap (λ s. pick (same_row row c.row) c.count +ℤ s) (count_is_sum row cs)

-- In another order, changes add the same number to the count of each row.
pub count_permuted : (row : List Value) (old new : List Signed) → IsPermutation old new → signed_count row new ≡ signed_count row old
count_permuted row old new moved =
    count_is_sum row new ∙ sum_permuted (λ (c : Signed). pick (same_row row c.row) c.count) old new moved ∙ sym (count_is_sum row old)

-- And each row has at most one of them, if it had before.
pub once_permuted : (old new : List Signed) → IsPermutation old new → IsOnceEach old → IsOnceEach new
once_permuted old new moved once =
    IsDistinct-IsPermutation same_row (λ a b. same_row_equiv.symm a b) (rows_in old) (rows_in new) (IsPermutation-map (λ (c : Signed). c.row) old new moved)
    once

-- ---- the order

-- Of the first changes, the first `gains` add rows, and the others do not.
abbrev pub AreParted : List Signed → ℕ → ℕ → Type 0
AreParted changes gains first =
    ((k : ℕ) (d : Signed) → k < gains → pos 0 ≤ℤ (get_or changes k d).count)
    × ((k : ℕ) (d : Signed) → gains ≤ k → k < first → (get_or changes k d).count ≤ℤ pos 0)

-- The next change adds rows, and is exchanged with the first of those that do not.
pub parted_gain : (old new : List Signed) (gains i : ℕ) → gains ≤ i → SwappedAt old new gains i
    → ((d : Signed) → pos 0 ≤ℤ (get_or old i d).count) → AreParted old gains i → AreParted new (gains + 1) (i + 1)
parted_gain old new gains i behind swapped gain parted = (
  λ k d less.
      ⊎_elim
      (λ here. subst (λ n. pos 0 ≤ℤ (get_or new n d).count) (sym here) (subst (λ (c : Signed). pos 0 ≤ℤ c.count) (sym (swapped.0 d)) (gain d)))
      (λ other. subst (λ (c : Signed). pos 0 ≤ℤ c.count) (sym (swapped.2 k d other (below k less other))) (parted.0 k d (omega (arith, less, other))))
      (cases_eq k gains),
  λ k d least less.
      ⊎_elim
      (λ here.
      subst (λ n. (get_or new n d).count ≤ℤ pos 0) (sym here)
      (subst (λ (c : Signed). c.count ≤ℤ pos 0) (sym (swapped.1 d)) (parted.1 gains d (omega arith) (omega (arith, here, least)))))
      (λ other.
      subst (λ (c : Signed). c.count ≤ℤ pos 0) (sym (swapped.2 k d (above k least) other)) (parted.1 k d (omega (arith, least)) (omega (arith, less, other))))
      (cases_eq k i),
)
  where
    below : (k : ℕ) → k < gains + 1 → k ≢ gains → k ≢ i
    below k less other same = absurd (omega (arith, less, other, same, behind))

    above : (k : ℕ) → gains + 1 ≤ k → k ≢ gains
    above k least same = absurd (omega (arith, least, same))

-- The next change adds no rows, and stays.
pub parted_loss : (changes : List Signed) (gains i : ℕ) → ((d : Signed) → (get_or changes i d).count ≤ℤ pos 0) → AreParted changes gains i
    → AreParted changes gains (i + 1)
parted_loss changes gains i loss parted = (
  parted.0,
  λ k d least less.
      ⊎_elim
      (λ here. subst (λ n. (get_or changes n d).count ≤ℤ pos 0) (sym here) (loss d))
      (λ other. parted.1 k d least (omega (arith, less, other)))
      (cases_eq k i),
)

pub parted_none : (changes : List Signed) → AreParted changes 0 0
parted_none changes = (λ k d less. absurd (omega (arith, less)), λ k d least less. absurd (omega (arith, less)))

pub parted_all : (changes : List Signed) (gains i : ℕ) → length changes ≤ i → AreParted changes gains i → HasGainsFirst changes
parted_all changes gains i all parted = (
  gains,
  λ k d within.
      let long = length-take gains changes in
      let less : k < gains = omega (arith, within, long) in
      subst (λ (c : Signed). pos 0 ≤ℤ c.count) (sym (get_or-take gains changes k d less)) (parted.0 k d less),
  λ k d within.
      let long = length-drop gains changes in
      subst (λ (c : Signed). c.count ≤ℤ pos 0) (sym (get_or-drop gains changes k d)) (parted.1 (gains + k) d (omega arith) (omega (arith, within, long, all))),
)

-- ---- the number of rows on the way

nothing : pos 0 ≤ℤ pos 0
nothing = omega (arith, ints)

itself : (a : ℤ) → a ≤ℤ a
itself a = omega (arith, ints)

-- Changes that remove rows add none.
no_gain : (changes : List Signed) → All (λ (c : Signed). c.count ≤ℤ pos 0) changes → (k : ℕ) → sum_of (drop k changes) ≤ℤ pos 0
no_gain [] all zero = nothing
no_gain [] all (suc k) = nothing
no_gain (c ∷ cs) all zero = both c.count (sum_of cs) (All-head (λ (x : Signed). x.count ≤ℤ pos 0) c cs all)
    (no_gain cs (All-tail (λ (x : Signed). x.count ≤ℤ pos 0) c cs all) zero)
  where
    both : (a b : ℤ) → a ≤ℤ pos 0 → b ≤ℤ pos 0 → (a +ℤ b) ≤ℤ pos 0
    both a b p q = omega (arith, ints)
no_gain (c ∷ cs) all (suc k) = no_gain cs (All-tail (λ (x : Signed). x.count ≤ℤ pos 0) c cs all) k

-- After some of the changes there are no more rows than before, or no more than after all of them.
sum_behind : (changes : List Signed) (gains k : ℕ) → All (λ (c : Signed). pos 0 ≤ℤ c.count) (take gains changes)
    → All (λ (c : Signed). c.count ≤ℤ pos 0) (drop gains changes) → (sum_of (drop k changes) ≤ℤ pos 0) ⊎ (sum_of (drop k changes) ≤ℤ sum_of changes)
sum_behind changes gains zero up down = inr (itself (sum_of changes))
sum_behind [] gains (suc k) up down = inl nothing
sum_behind (c ∷ cs) zero (suc k) up down = inl (no_gain (c ∷ cs) down (suc k))
sum_behind (c ∷ cs) (suc gains) (suc k) up down =
    ⊎_elim (λ h. inl h) (λ h. inr (more c.count (sum_of cs) (sum_of (drop k cs)) (All-head (λ (x : Signed). pos 0 ≤ℤ x.count) c (take gains cs) up) h))
    (sum_behind cs gains k (All-tail (λ (x : Signed). pos 0 ≤ℤ x.count) c (take gains cs) up) down)
  where
    more : (a b z : ℤ) → pos 0 ≤ℤ a → z ≤ℤ b → z ≤ℤ (a +ℤ b)
    more a b z p q = omega (arith, ints)

-- So there are few rows on the way, if there are few before and after.
pub few_behind : (changes : List Signed) → HasGainsFirst changes → (old new : ℕ) → old ≤ most_rows → new ≤ most_rows → pos old +ℤ sum_of changes ≡ pos new
    → (k : ℕ) → (pos old +ℤ sum_of (drop k changes)) ≤ℤ pos most_rows
few_behind changes (gains, up, down) old new few still is k =
    ⊎_elim (λ h. before old (sum_of (drop k changes)) few h) (λ h. after old new (sum_of (drop k changes)) (sum_of changes) still is h)
    (sum_behind changes gains k up down)
  where
    before : (o : ℕ) (z : ℤ) → o ≤ most_rows → z ≤ℤ pos 0 → (pos o +ℤ z) ≤ℤ pos most_rows
    before o z p q = omega (arith, ints)

    after : (o n : ℕ) (z s : ℤ) → n ≤ most_rows → pos o +ℤ s ≡ pos n → z ≤ℤ s → (pos o +ℤ z) ≤ℤ pos most_rows
    after o n z s p e q = omega (arith, ints)

-- ---- the changes of one list

abbrev IsShort : ℤ → Type 0
IsShort z = (neg_ℤ (pos (2 ^ 63)) ≤ℤ z) × (z <ℤ pos (2 ^ 63))

-- If the change of each row's count fits 64 bits, and each row has at most one change, each change fits 64 bits.
each_small : (changes : List Signed) → IsOnceEach changes → ((row : List Value) → IsShort (signed_count row changes))
    → All (λ (c : Signed). IsShort c.count) changes
each_small [] once short = All-nil (λ (c : Signed). IsShort c.count)
each_small (c ∷ cs) once short =
    All-cons (λ (d : Signed). IsShort d.count) c cs (subst IsShort (first_is c cs once) (short c.row))
    (each_small cs (once_tail c cs once)
    (λ row. ⊎_elim (λ e. subst IsShort (sym e) (omega (arith, ints), omega (arith, ints))) (λ e. subst IsShort (sym e) (short row))
    (count_dropped row 1 (c ∷ cs) once)))

-- Changes turn the bag into the rows after, if there are few of them before and after.
pub brings : (entries : Entries) (old new : List Signed) (after before : Rows) → IsOnceEach old → IsOnce entries → IsBagOf entries before
    → ((row : List Value) → signed_count row old ≡ pos (count_of row after) -ℤ pos (count_of row before))
    → IsPermutation old new → HasGainsFirst new → total_of entries ≤ most_rows → length after ≤ most_rows → Brings new entries after
brings entries old new after before once keys bag change moved gains few still =
    let new_once : IsOnceEach new = once_permuted old new moved once in
    let new_change : (row : List Value) → signed_count row new ≡ pos (count_of row after) -ℤ pos (count_of row before) =
    λ row. count_permuted row old new moved ∙ change row in
    record {
      counts = counts_after entries new after before new_once keys bag new_change;
      stages = counts_behind entries new after before new_once keys bag new_change;
      totals = few_behind new gains (total_of entries) (length after) few still (total_after entries new after before new_once keys bag new_change);
      small = each_small new new_once
          (λ row. small (count_of row after) (count_of row before) (signed_count row new) (new_change row)
          (count_by-le-length (same_row row) after) (count_by-le-length (same_row row) before));
    }
  where
    before_is : total_of entries ≡ length before
    before_is = total_is_length entries before keys bag

    small : (a b : ℕ) (z : ℤ) → z ≡ pos a -ℤ pos b → a ≤ length after → b ≤ length before → IsShort z
    small a b z is p q = (omega (arith, ints, is, p, q, few, still, before_is), omega (arith, ints, is, p, q, few, still, before_is))
