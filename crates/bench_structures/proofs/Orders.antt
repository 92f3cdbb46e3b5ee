-- The order by key, and the positions of references in it.
use Rattle.std.proofs.Common.{◌≡◌, ◌≢◌, ◌<◌, All, List, ℕ, get_or, arith}
use Rattle.std.specs.Cmp.{IsTotalOrder, then_total, on_total, nat_cmp_total}
use Rattle.std.proofs.lemmas.Map.Lookups.{exact_unsigned}
use Rattle.std.specs.Ordering.{nat_cmp, ordering_then}
use Rattle.std.specs.declared.cmp.Ordering.{Ordering}
use Rattle.std.specs.declared.cmp.Ordering.TheVariants.{Less, Equal, Greater}
use Rattle.mm_value.specs.declared.row_ref.RowRef.{RowRef}
use Rattle.mm_order.specs.Order.{IsTotalOrderOn-from_total}
use Rattle.mm_order.specs.Probe.{IsMonotone}
use Rattle.mm_order.proofs.Monotone.{IsMonotone-at}
use Rattle.bench_structures.specs.Keys.{key_in, by_key}

by_key_total : (keys : List ℕ) → IsTotalOrder (by_key keys)
by_key_total keys = then_total (on_total (key_in keys) nat_cmp_total) (on_total (λ (r : RowRef). r.slot) nat_cmp_total)

-- the positions of a reference are non-decreasing
pub monotone_by_key : (keys : List ℕ) (at : RowRef) → IsMonotone (λ _. Unit {0}) (by_key keys) (λ _. Unit {0} × Unit {0}) (λ a. by_key keys a at)
monotone_by_key keys at = IsMonotone-at (λ _. Unit {0}) (by_key keys) (IsTotalOrderOn-from_total _ _ (by_key_total keys)) at tt

second_equal : (o p : Ordering) → ordering_then o p ≡ Equal → p ≡ Equal
second_equal Less p equal = absurd (cc)
second_equal Equal p equal = equal
second_equal Greater p equal = absurd (cc)

-- a reference differs from those of the slots before
pub apart_from_earlier : (keys : List ℕ) (refs : List RowRef) (added : RowRef) → All (λ a. a.slot < added.slot) refs
    → All (λ a. by_key keys a added ≢ Equal) refs
apart_from_earlier keys refs added earlier k d below equal =
    let a : RowRef = get_or refs k d in
    let before : a.slot < added.slot = earlier k d below in
    let same : a.slot ≡ added.slot = exact_unsigned a.slot added.slot
    (second_equal (nat_cmp (key_in keys a) (key_in keys added)) (nat_cmp a.slot added.slot) equal) in
    omega (arith, same, before)
