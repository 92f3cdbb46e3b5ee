-- Searches for rows of one key in the order of the key.
use Rattle.std.proofs.Common.{◌≡◌, ◌≢◌, ℕ, ◌<◌, ◌≤◌, ◌⊎◌, inl, inr, ⊎_elim}
use Rattle.std.proofs.Common.{Bool, true, false, cond, nat_lt, List, Option, None, Some, refl, sym, ap, ◌∙◌, subst, arith}
use Rattle.std.specs.Prelude.{◌↔◌, IsSome, IfSome, IfNone, slice_get}
use Rattle.std.specs.List.{All, Contains}
use Rattle.std.specs.Cmp.{IsTotalOrder}
use Rattle.std.specs.Cmp.Lexicographic.{options_total}
use Rattle.std.specs.Option.{option_cmp}
use Rattle.std.specs.Ordering.{nat_cmp, ordering_then, ordering_reverse, ordering_index}
use Rattle.std.specs.declared.cmp.Ordering.{Ordering}
use Rattle.std.specs.declared.cmp.Ordering.TheVariants.{Less, Equal, Greater}
use Rattle.std.proofs.lemmas.Bool.{cases_order}
use Rattle.std.proofs.lemmas.Bool.Decides.{nat_tests}
use Rattle.std.proofs.lemmas.List.Elements.{All-contains}
use Rattle.mm_value.proofs.Orders.{value_cmp_total}
use Rattle.mm_value.specs.Order.{value_cmp}
use Rattle.mm_value.specs.declared.row_ref.RowRef.{RowRef}
use Rattle.mm_value.specs.declared.values.Value.{Value}
use Rattle.mm_schema.specs.Rows.{column_cmp}
use Rattle.mm_order.specs.Probe.{IsMonotone}
use Rattle.mm_row_order.specs.Refs.{Slots, HasRow, IsWide, row_at, refs_by}
use Rattle.mm_indexed.specs.Twins.{HasTwin, HasTwinBelow, HasTwinAbove, keys_by, place_below, place_above}

at_most_two : (o : Ordering) → ordering_index o ≤ 2
at_most_two Less = omega arith
at_most_two Equal = omega arith
at_most_two Greater = omega arith

-- comparisons by a key and then by something else, along the order
module _ {K : Type 0} (R : K → K → Ordering) (total : IsTotalOrder R) (x y v : K) (s t : Ordering) where
  past : (o p : Ordering) → p ≡ Greater → ordering_index (ordering_then o s) ≤ ordering_index (ordering_then p t)
  past o p is = subst (λ q. ordering_index (ordering_then o s) ≤ ordering_index (ordering_then q t)) (sym is) (at_most_two (ordering_then o s))

  by_first : (o : Ordering) → o ≡ R x v → R x y ≡ Less → ordering_index (ordering_then o s) ≤ ordering_index (ordering_then (R y v) t)
  by_first Less is less = omega arith
  by_first Equal is less =
      past Equal (R y v) (total.antisymm y v ∙ ap ordering_reverse (sym (total.congr x v y (sym is)) ∙ less))
  by_first Greater is less =
      let back : R v x ≡ Less = total.antisymm v x ∙ ap ordering_reverse (sym is) in
      past Greater (R y v) (total.antisymm y v ∙ ap ordering_reverse (total.trans v x y back less))

  by_second : (o : Ordering) → ordering_index s ≤ ordering_index t → ordering_index (ordering_then o s) ≤ ordering_index (ordering_then o t)
  by_second Less up = omega arith
  by_second Equal up = up
  by_second Greater up = omega arith

  pub goes_up : (q c : Ordering) → q ≡ R x y → ordering_then (ordering_then q q) c ≡ Less → (c ≡ Less → ordering_index s ≤ ordering_index t)
      → ordering_index (ordering_then (R x v) s) ≤ ordering_index (ordering_then (R y v) t)
  goes_up Less c is less up = by_first (R x v) refl (sym is)
  goes_up Equal c is less up =
      subst (λ p. ordering_index (ordering_then (R x v) s) ≤ ordering_index (ordering_then p t)) (total.congr x y v (sym is)) (by_second (R x v) (up less))
  goes_up Greater c is less up = let e : Greater ≡ Less = less in let no : ⊥ = cc in absurd no

test_from_less : (i k : ℕ) → i < k → nat_lt i k ≡ true
test_from_less i k less = grind (arith, nat_tests)

less_from_test : (i k : ℕ) → nat_lt i k ≡ true → i < k
less_from_test i k is = grind (arith, nat_tests)

less_from_cmp : (i j : ℕ) → nat_cmp i j ≡ Less → i < j
less_from_cmp i j is = grind (arith, nat_tests)

-- of two tests the second implies the first
below_tests : (p q : Bool) → (q ≡ true → p ≡ true) → ordering_index (cond p Equal Greater) ≤ ordering_index (cond q Equal Greater)
below_tests true true h = omega arith
below_tests true false h = omega arith
below_tests false true h = let e : false ≡ true = h refl in let no : ⊥ = cc in absurd no
below_tests false false h = omega arith

above_tests : (p q : Bool) → (p ≡ true → q ≡ true) → ordering_index (cond p Equal Less) ≤ ordering_index (cond q Equal Less)
above_tests true true h = omega arith
above_tests true false h = let e : false ≡ true = h refl in let no : ⊥ = cc in absurd no
above_tests false true h = omega arith
above_tests false false h = omega arith

below_step : (i j k : ℕ) → nat_cmp i j ≡ Less → ordering_index (cond (nat_lt i k) Equal Greater) ≤ ordering_index (cond (nat_lt j k) Equal Greater)
below_step i j k less =
    let before : i < j = less_from_cmp i j less in
    below_tests (nat_lt i k) (nat_lt j k)
    (λ (later : nat_lt j k ≡ true). let after : j < k = less_from_test j k later in test_from_less i k (omega arith))

above_step : (i j k : ℕ) → nat_cmp i j ≡ Less → ordering_index (cond (nat_lt k i) Equal Less) ≤ ordering_index (cond (nat_lt k j) Equal Less)
above_step i j k less =
    let before : i < j = less_from_cmp i j less in
    above_tests (nat_lt k i) (nat_lt k j)
    (λ (earlier : nat_lt k i ≡ true). let after : k < i = less_from_test k i earlier in test_from_less k j (omega arith))

lower : (i k : ℕ) (b : Bool) → nat_lt i k ≡ b → cond b Equal Greater ≡ Equal → i < k
lower i k true tested is = less_from_test i k tested
lower i k false tested is = let e : Greater ≡ Equal = is in let no : ⊥ = cc in absurd no

higher : (i k : ℕ) (b : Bool) → nat_lt i k ≡ b → cond b Equal Less ≡ Equal → i < k
higher i k true tested is = less_from_test i k tested
higher i k false tested is = let e : Less ≡ Equal = is in let no : ⊥ = cc in absurd no

lower_test : {X : Type 0} (i k : ℕ) (x y : X) → i < k → cond (nat_lt i k) x y ≡ x
lower_test i k x y less = ap (λ b. cond b x y) (test_from_less i k less)

module _ (key : ℕ) (now : Slots) (at : RowRef) where
  key_of : RowRef → Option Value
  key_of a = slice_get (row_at now a) key

  pub IsMonotone-below : IsWide key key now at
      → IsMonotone (IsWide key key now) (refs_by key key now) (λ a. IsWide key key now a × IsWide key key now at) (place_below key now at)
  IsMonotone-below here = record {
    reaches = λ a wide. (wide, here);
    rises = λ a b in_a in_b less.
        goes_up (option_cmp value_cmp) (options_total value_cmp_total) (slice_get (row_at now a) key) (slice_get (row_at now b) key)
        (slice_get (row_at now at) key)
        (cond (nat_lt a.slot at.slot) Equal Greater) (cond (nat_lt b.slot at.slot) Equal Greater)
        (column_cmp key (row_at now a) (row_at now b)) (nat_cmp a.slot b.slot) refl less (below_step a.slot b.slot at.slot);
  }

  pub IsMonotone-above : IsWide key key now at
      → IsMonotone (IsWide key key now) (refs_by key key now) (λ a. IsWide key key now a × IsWide key key now at) (place_above key now at)
  IsMonotone-above here = record {
    reaches = λ a wide. (wide, here);
    rises = λ a b in_a in_b less.
        goes_up (option_cmp value_cmp) (options_total value_cmp_total) (slice_get (row_at now a) key) (slice_get (row_at now b) key)
        (slice_get (row_at now at) key)
        (cond (nat_lt at.slot a.slot) Equal Less) (cond (nat_lt at.slot b.slot) Equal Less)
        (column_cmp key (row_at now a) (row_at now b)) (nat_cmp a.slot b.slot) refl less (above_step a.slot b.slot at.slot);
  }

  both_equal : (o s : Ordering) → ordering_then o s ≡ Equal → (o ≡ Equal) × (s ≡ Equal)
  both_equal Less s is = let e : Less ≡ Equal = is in let no : ⊥ = cc in absurd no
  both_equal Equal s is = (refl, is)
  both_equal Greater s is = let e : Greater ≡ Equal = is in let no : ⊥ = cc in absurd no

  equal_both : (o s : Ordering) → o ≡ Equal → s ≡ Equal → ordering_then o s ≡ Equal
  equal_both o s one other = subst (λ p. ordering_then p s ≡ Equal) (sym one) other

  module _ (refs : List RowRef) (held : (r : RowRef) → Contains refs r ↔ HasRow now r) where
    -- the reference found is a twin, and if none is found, there is no twin
    pub found_below : (found : Option RowRef) → IfSome found (Contains refs) → IfSome found (λ r. place_below key now at r ≡ Equal)
        → IsSome found → HasTwinBelow key now at
    found_below None here fits some = let no : ⊥ = cc in absurd no
    found_below (Some r) here fits some =
        let both = both_equal (keys_by key now r at) (cond (nat_lt r.slot at.slot) Equal Greater) fits in
        (r, (held r).0 here, lower r.slot at.slot (nat_lt r.slot at.slot) refl both.1, both.0)

    pub none_below : (found : Option RowRef) → IfNone found (All (λ r. place_below key now at r ≢ Equal) refs) → HasTwinBelow key now at → IsSome found
    none_below (Some r) none twin = refl
    none_below None none (other, live, less, same) =
        absurd (All-contains (λ r. place_below key now at r ≢ Equal) refs other none ((held other).1 live)
        (equal_both (keys_by key now other at) (cond (nat_lt other.slot at.slot) Equal Greater) same (lower_test other.slot at.slot Equal Greater less)))

    pub found_above : (found : Option RowRef) → IfSome found (Contains refs) → IfSome found (λ r. place_above key now at r ≡ Equal)
        → IsSome found → HasTwinAbove key now at
    found_above None here fits some = let no : ⊥ = cc in absurd no
    found_above (Some r) here fits some =
        let both = both_equal (keys_by key now r at) (cond (nat_lt at.slot r.slot) Equal Less) fits in
        (r, (held r).0 here, higher at.slot r.slot (nat_lt at.slot r.slot) refl both.1, both.0)

    pub none_above : (found : Option RowRef) → IfNone found (All (λ r. place_above key now at r ≢ Equal) refs) → HasTwinAbove key now at → IsSome found
    none_above (Some r) none twin = refl
    none_above None none (other, live, less, same) =
        absurd (All-contains (λ r. place_above key now at r ≢ Equal) refs other none ((held other).1 live)
        (equal_both (keys_by key now other at) (cond (nat_lt at.slot other.slot) Equal Less) same (lower_test at.slot other.slot Equal Less less)))

  -- a twin is below or above
  pub twin_from_below : HasTwinBelow key now at → HasTwin key now at
  twin_from_below (other, live, less, same) =
      (other, live, λ (e : other ≡ at). let slot : other.slot ≡ at.slot = ap (λ (r : RowRef). r.slot) e in omega arith, same)

  pub twin_from_above : HasTwinAbove key now at → HasTwin key now at
  twin_from_above (other, live, less, same) =
      (other, live, λ (e : other ≡ at). let slot : other.slot ≡ at.slot = ap (λ (r : RowRef). r.slot) e in omega arith, same)

  pub twin_cases : HasTwin key now at → HasTwinBelow key now at ⊎ HasTwinAbove key now at
  twin_cases (other, live, apart, same) =
      ⊎_elim
      (λ (e : other.slot ≡ at.slot). absurd (apart (λ i. record { slot = e i })))
      (λ (o : (other.slot < at.slot) ⊎ (at.slot < other.slot)).
      ⊎_elim (λ (less : other.slot < at.slot). inl (other, live, less, same)) (λ (more : at.slot < other.slot). inr (other, live, more, same)) o)
      (cases_order other.slot at.slot)
