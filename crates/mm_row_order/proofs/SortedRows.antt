-- The references of sorted rows are in order.
use Rattle.std.proofs.Common.{◌≡◌, ◌≢◌, ℕ, suc, ◌+◌, ◌<◌, false, List, [], ◌∷◌, length, get_or, refl, sym, ap, ◌∙◌, arith, add-one}
use Rattle.std.specs.Prelude.{map}
use Rattle.std.specs.Cmp.{IsTotalOrder, then_total, on_total}
use Rattle.std.specs.List.{All, AllPairs}
use Rattle.std.specs.List.Sorted.{IsStrictlySortedBy}
use Rattle.std.specs.Ordering.{is_eq, is_lt, nat_cmp}
use Rattle.std.specs.declared.cmp.Ordering.{Ordering}
use Rattle.std.specs.declared.cmp.Ordering.TheVariants.{Less, Equal, Greater}
use Rattle.std.proofs.lemmas.Cmp.{nat_cmp_total}
use Rattle.std.proofs.lemmas.Map.Lookups.{exact_unsigned}
use Rattle.std.proofs.lemmas.List.{get_or-map, length-map}
use Rattle.std.proofs.lemmas.List.Elements.{All-map}
use Rattle.mm_value.specs.Order.{value_cmp}
use Rattle.mm_value.specs.declared.row_ref.RowRef.{RowRef}
use Rattle.mm_value.specs.declared.values.Value.{Value}
use Rattle.mm_value.proofs.Orders.{value_cmp_total, then_second}
use Rattle.mm_schema.proofs.Orderings.{less_from_no_tie}
use Rattle.mm_schema.proofs.StrictOrder.{IsStrictlySortedBy-at, IsStrictlySortedBy-from_neighbours}
use Rattle.mm_row_order.specs.InOrder.{InOrder}
use Rattle.mm_row_order.specs.Refs.{Slots, IsWide, refs_by, row_at}
use Rattle.mm_row_order.specs.Sorting.{AreSorted, IsOf, ref_of, sortable_cmp, values_cmp}
use Rattle.mm_row_order.specs.declared.sorting.Sortable.{Sortable}

-- an order that does not compare two elements equal
pub not_tied : (o : Ordering) → o ≢ Equal → is_eq o ≡ false
not_tied Less differ = refl
not_tied Equal differ = absurd (differ refl)
not_tied Greater differ = refl

pub sortable_total : {V : Type 0} (read : V → Value) → IsTotalOrder (sortable_cmp read)
sortable_total {V} read =
    then_total (then_total (on_total (λ (x : Sortable V). read x.value) value_cmp_total) (on_total (λ (x : Sortable V). read x.key) value_cmp_total))
    (on_total (λ (x : Sortable V). x.at.slot) nat_cmp_total)

module _ {V : Type 0} (read : V → Value) (column key : ℕ) (now : Slots) where
  -- they compare as their references do
  agree : (a b : Sortable V) → IsOf read column key now a → IsOf read column key now b → refs_by column key now a.at b.at ≡ sortable_cmp read a b
  agree a b one other = rw (one.value_is, other.value_is, one.key_is, other.key_is) refl

  module _ (xs : List (Sortable V)) (all : All (IsOf read column key now) xs) (sorted : AreSorted read xs)
      (apart : AllPairs (λ a b. a ≢ b) (map ref_of xs)) where
    neighbours : (k : ℕ) (d : Sortable V) → k + 1 < length xs → sortable_cmp read (get_or xs k d) (get_or xs (suc k) d) ≡ Less
    neighbours k d within =
        let one : Sortable V = get_or xs k d in
        let next : Sortable V = get_or xs (suc k) d in
        let refs_differ : one.at ≢ next.at =
        rw (sym (get_or-map ref_of xs k d d.at (omega arith)), sym (get_or-map ref_of xs (suc k) d d.at (omega arith)))
        (apart k (suc k) d.at (omega arith) (omega (arith, length-map xs ref_of))) in
        let differ : sortable_cmp read one next ≢ Equal = λ tie.
        let slot : one.at.slot ≡ next.at.slot = exact_unsigned _ _ (then_second (values_cmp read one next) (nat_cmp one.at.slot next.at.slot) tie) in
        refs_differ (λ i. record { slot = slot i }) in
        let not_back : is_lt (sortable_cmp read next one) ≡ false = rw (← add-one k) (sorted k d (omega arith) within) in
        less_from_no_tie (sortable_cmp read one next) (not_tied (sortable_cmp read one next) differ)
        (ap is_lt (sym ((sortable_total read).antisymm next one)) ∙ not_back)

    strictly : IsStrictlySortedBy (sortable_cmp read) xs
    strictly = IsStrictlySortedBy-from_neighbours (sortable_total read) xs neighbours

    ascending : Sortable V → AllPairs (λ a b. refs_by column key now a b ≡ Less) (map ref_of xs)
    ascending x i j d before within =
        let below : j < length xs = omega (arith, within, length-map xs ref_of) in
        rw (get_or-map ref_of xs i x d (omega arith), get_or-map ref_of xs j x d below)
        (agree (get_or xs i x) (get_or xs j x) (all i x (omega arith)) (all j x below)
        ∙ IsStrictlySortedBy-at (sortable_total read) xs i j x before below strictly)

  pub InOrder-sorted : (xs : List (Sortable V)) → All (IsOf read column key now) xs → AreSorted read xs → AllPairs (λ a b. a ≢ b) (map ref_of xs)
      → InOrder column key now (map ref_of xs)
  InOrder-sorted [] all sorted apart = record { covered = λ k d within. absurd (omega arith); ascending = λ i j d before within. absurd (omega arith) }
  InOrder-sorted (x ∷ rest) all sorted apart = record {
    covered = All-map (IsWide column key now) ref_of (x ∷ rest) (λ k d within. (all k d within).wide);
    ascending = ascending (x ∷ rest) all sorted apart x;
  }

-- the relation is symmetric
pub apart_turned : (a b : RowRef) → a ≢ b → b ≢ a
apart_turned a b differ same = differ (sym same)
