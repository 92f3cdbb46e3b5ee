-- Changes without those by 0, negated changes, and changes as the entries of a multiset.
use Rattle.std.proofs.Common.{◌≡◌, ◌≢◌, ◌==◌, ℤ, pos, negsuc, neg_ℤ, ◌+ℤ◌, ◌<ℤ◌, Bool, true, false, true≢false, cond, List, [], ◌∷◌, All, filter, length, map}
use Rattle.std.proofs.Common.{Some, refl, sym, subst, ap, ◌∙◌, arith}
use Rattle.std.proofs.lemmas.Bool.{eqb-true}
use Rattle.std.proofs.lemmas.Int.{ints}
use Rattle.std.proofs.lemmas.List.Elements.{All-cons, All-filter, All-head, All-nil, All-tail}
use Rattle.std.proofs.lemmas.Map.Keys.{IsDistinct-cons, IsDistinct-head, IsDistinct-tail}
use Rattle.std.specs.List.{AllByRecursion, IsDistinct}
use Rattle.std.specs.Map.{lookup}
use Rattle.std.specs.Option.{unwrap_or}
use Rattle.mm_value.specs.Equality.{same_row}
use Rattle.mm_value.specs.declared.values.Value.{Value}
use Rattle.mm_value.proofs.SameRows.{rows_exact}
use Rattle.mm_multiset.specs.Counts.{IsNet, count_in, signed_count}
use Rattle.mm_multiset.specs.Tally.{AreListed, AreOnce, IsSmall, count_from, is_some_change, listed, opposite, rows_changed}
use Rattle.mm_multiset.specs.declared.signed.Signed.{Signed}
use Rattle.mm_multiset.proofs.Passing.{unchanged}

pub nothing : {X : Type 0} (xs : List X) → length xs ≡ 0 → xs ≡ []
nothing [] e = refl
nothing (x ∷ xs) e = absurd (let no : ⊥ = omega (arith, e) in no)

-- ---- changes without those by 0

abbrev pub counts_now : Signed → Bool
counts_now change = is_some_change change.count

some_change : (z : ℤ) → is_some_change z ≡ true → z ≢ pos 0
some_change z some none = true≢false (sym some ∙ ap is_some_change none)

no_change : (z : ℤ) → is_some_change z ≡ false → z ≡ pos 0
no_change (pos n) none = by (n == 0) refl none
  where
    by : (b : Bool) → (n == 0) ≡ b → cond b false true ≡ false → pos n ≡ pos 0
    by true e h = ap pos (eqb-true n 0 e)
    by false e h = absurd (true≢false h)
no_change (negsuc n) none = absurd (true≢false none)

pub signed_some : (row : List Value) (xs : List Signed) → signed_count row (filter counts_now xs) ≡ signed_count row xs
signed_some row [] = refl
signed_some row (x ∷ xs) = by (is_some_change x.count) refl (signed_some row xs)
  where
    left_out : (b : Bool) (z s t : ℤ) → z ≡ pos 0 → s ≡ t → s ≡ cond b z (pos 0) +ℤ t
    left_out true z s t e f = omega (arith, ints, e, f)
    left_out false z s t e f = omega (arith, ints, e, f)

    by : (b : Bool) → is_some_change x.count ≡ b → signed_count row (filter counts_now xs) ≡ signed_count row xs
        → signed_count row (cond b (x ∷ filter counts_now xs) (filter counts_now xs)) ≡ signed_count row (x ∷ xs)
    by true e same = ap (λ z. cond (same_row row x.row) x.count (pos 0) +ℤ z) same
    by false e same = left_out (same_row row x.row) x.count (signed_count row (filter counts_now xs)) (signed_count row xs) (no_change x.count e) same

rows_of_some : (P : List Value → Type 0) (xs : List Signed) → AllByRecursion P (rows_changed xs) → AllByRecursion P (rows_changed (filter counts_now xs))
rows_of_some P [] all = tt
rows_of_some P (x ∷ xs) all = by (is_some_change x.count) (rows_of_some P xs all.1)
  where
    by : (b : Bool) → AllByRecursion P (rows_changed (filter counts_now xs))
        → AllByRecursion P (rows_changed (cond b (x ∷ filter counts_now xs) (filter counts_now xs)))
    by true rest = (all.0, rest)
    by false rest = rest

once_some : (xs : List Signed) → IsDistinct same_row (rows_changed xs) → IsDistinct same_row (rows_changed (filter counts_now xs))
once_some [] once = once
once_some (x ∷ xs) once = by (is_some_change x.count) (once_some xs (IsDistinct-tail same_row x.row (rows_changed xs) once))
  where
    by : (b : Bool) → IsDistinct same_row (rows_changed (filter counts_now xs))
        → IsDistinct same_row (rows_changed (cond b (x ∷ filter counts_now xs) (filter counts_now xs)))
    by true rest =
        IsDistinct-cons same_row x.row (rows_changed (filter counts_now xs))
        (rows_of_some (λ r. same_row x.row r ≡ false) xs (IsDistinct-head same_row x.row (rows_changed xs) once)) rest
    by false rest = rest

all_some : (xs : List Signed) → All (λ (x : Signed). x.count ≢ pos 0) (filter counts_now xs)
all_some [] = All-nil (λ (x : Signed). x.count ≢ pos 0)
all_some (x ∷ xs) = by (is_some_change x.count) refl (all_some xs)
  where
    by : (b : Bool) → is_some_change x.count ≡ b → All (λ (y : Signed). y.count ≢ pos 0) (filter counts_now xs)
        → All (λ (y : Signed). y.count ≢ pos 0) (cond b (x ∷ filter counts_now xs) (filter counts_now xs))
    by true e rest = All-cons (λ (y : Signed). y.count ≢ pos 0) x (filter counts_now xs) (some_change x.count e) rest
    by false e rest = rest

pub net_some : (xs : List Signed) → AreOnce xs → IsNet (filter counts_now xs)
net_some xs are = record {
  once = once_some xs are.once;
  nonzero = all_some xs;
  small = All-filter counts_now (λ (x : Signed). IsSmall x.count) xs are.small;
}

-- ---- negated changes

pub signed_turned : (row : List Value) (xs : List Signed) → signed_count row (map opposite xs) ≡ neg_ℤ (signed_count row xs)
signed_turned row [] = refl
signed_turned row (x ∷ xs) = by (same_row row x.row) (signed_count row (map opposite xs)) (signed_count row xs) (signed_turned row xs)
  where
    by : (b : Bool) (s t : ℤ) → s ≡ neg_ℤ t → cond b (neg_ℤ x.count) (pos 0) +ℤ s ≡ neg_ℤ (cond b x.count (pos 0) +ℤ t)
    by true s t e = omega (arith, ints, e)
    by false s t e = omega (arith, ints, e)

rows_turned : (xs : List Signed) → rows_changed xs ≡ rows_changed (map opposite xs)
rows_turned [] = refl
rows_turned (x ∷ xs) = ap (λ l. x.row ∷ l) (rows_turned xs)

small_turned : (z : ℤ) → IsSmall z → IsSmall (neg_ℤ z)
small_turned z small = (omega (arith, ints, small.1), omega (arith, ints, small.0))

all_turned : (P Q : ℤ → Type 0) → ((z : ℤ) → P z → Q (neg_ℤ z)) → (xs : List Signed) → All (λ (x : Signed). P x.count) xs
    → All (λ (x : Signed). Q x.count) (map opposite xs)
all_turned P Q turns [] all = All-nil (λ (x : Signed). Q x.count)
all_turned P Q turns (x ∷ xs) all =
    All-cons (λ (y : Signed). Q y.count) (opposite x) (map opposite xs) (turns x.count (All-head (λ (y : Signed). P y.count) x xs all))
    (all_turned P Q turns xs (All-tail (λ (y : Signed). P y.count) x xs all))

pub once_turned : (xs : List Signed) → AreOnce xs → AreOnce (map opposite xs)
once_turned xs are = record {
  once = subst (IsDistinct same_row) (rows_turned xs) are.once;
  small = all_turned IsSmall IsSmall small_turned xs are.small;
}

nonzero_turned : (z : ℤ) → z ≢ pos 0 → neg_ℤ z ≢ pos 0
nonzero_turned z some none = some (omega (arith, ints, none))

pub net_turned : (xs : List Signed) → IsNet xs → IsNet (map opposite xs)
net_turned xs net = record {
  once = subst (IsDistinct same_row) (rows_turned xs) net.once;
  nonzero = all_turned (λ z. z ≢ pos 0) (λ z. z ≢ pos 0) nonzero_turned xs net.nonzero;
  small = all_turned IsSmall IsSmall small_turned xs net.small;
}

-- ---- changes as the entries of a multiset

pub rest_listed : (x : Signed) (xs : List Signed) → AreListed (x ∷ xs) → AreListed xs
rest_listed x xs l = record {
  are = record {
    once = IsDistinct-tail same_row x.row (rows_changed xs) l.are.once;
    small = All-tail (λ (y : Signed). IsSmall y.count) x xs l.are.small;
  };
  some = All-tail (λ (y : Signed). pos 0 <ℤ y.count) x xs l.some;
}

counted_from : (z : ℤ) → pos 0 <ℤ z → pos (count_from z) ≡ z
counted_from (pos n) h = refl
counted_from (negsuc n) h = absurd (let no : ⊥ = omega (arith, ints, h) in no)

-- The count of a row is the number of its change.
pub count_listed : (row : List Value) (xs : List Signed) → AreListed xs → pos (count_in row (listed xs)) ≡ signed_count row xs
count_listed row [] l = refl
count_listed row (x ∷ xs) l = by (same_row row x.row) refl (count_listed row xs (rest_listed x xs l))
  where
    alone : (a s : ℤ) → s ≡ pos 0 → a ≡ a +ℤ s
    alone a s e = omega (arith, ints, e)

    others : (a s : ℤ) → a ≡ s → a ≡ pos 0 +ℤ s
    others a s e = omega (arith, ints, e)

    by : (b : Bool) → same_row row x.row ≡ b → pos (count_in row (listed xs)) ≡ signed_count row xs
        → pos (unwrap_or (cond b (Some (count_from x.count)) (lookup (same_row row) (listed xs))) 0) ≡ cond b x.count (pos 0) +ℤ signed_count row xs
    by true e same =
        let last = unchanged x.row xs (IsDistinct-head same_row x.row (rows_changed xs) l.are.once) in
        counted_from x.count (All-head (λ (y : Signed). pos 0 <ℤ y.count) x xs l.some)
        ∙ alone x.count (signed_count row xs) (subst (λ r. signed_count r xs ≡ pos 0) (sym ((rows_exact row x.row).0 e)) last)
    by false e same = others (pos (count_in row (listed xs))) (signed_count row xs) same

pub listed_none : AreListed []
unfolding IsDistinct
listed_none = record {
  are = record { once = tt; small = All-nil (λ (x : Signed). IsSmall x.count) };
  some = All-nil (λ (x : Signed). pos 0 <ℤ x.count);
}
