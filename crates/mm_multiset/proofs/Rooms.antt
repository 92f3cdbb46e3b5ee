-- A bag with more capacity has the same rows.
use Rattle.std.proofs.Common.{◌≡◌, ℕ, List, Option, sym, subst}
use Rattle.mm_value.specs.declared.row_ref.RowRef.{RowRef}
use Rattle.mm_partition.specs.Places.{Content, IsUnchanged, Places, extent_of}
use Rattle.mm_multiset.specs.Counts.{total_of}
use Rattle.mm_multiset.specs.Slots.{IsFed, IsKept, entries_of, feed_of}
use Rattle.slot_counts.specs.Numbers.{Telling}
use Rattle.mm_multiset.proofs.SlotLists.{slots_same}

module _ (old new : Places) (counts new_counts : List ℕ) (pairs new_pairs : List (ℕ × RowRef)) (same : IsUnchanged old new)
    (extent : extent_of new ≡ extent_of old) (same_counts : new_counts ≡ counts) (same_pairs : new_pairs ≡ pairs) where
  pub kept_grown : (total : ℕ) (feed new_feed : Option Telling) → new_feed ≡ feed
      → IsKept old.slots counts pairs × (total ≡ total_of (entries_of old.slots counts)) × IsFed old.slots feed
      → IsKept new.slots new_counts new_pairs × (total ≡ total_of (entries_of new.slots new_counts)) × IsFed new.slots new_feed
  kept_grown total feed new_feed same_feed was =
      subst (λ (l : List Content). IsKept l new_counts new_pairs × (total ≡ total_of (entries_of l new_counts)) × IsFed l new_feed)
      (sym (slots_same old new same extent))
      (subst (λ (l : List ℕ). IsKept old.slots l new_pairs × (total ≡ total_of (entries_of old.slots l)) × IsFed old.slots new_feed) (sym same_counts)
      (subst (λ (l : List (ℕ × RowRef)). IsKept old.slots counts l × (total ≡ total_of (entries_of old.slots counts)) × IsFed old.slots new_feed)
      (sym same_pairs)
      (subst (λ (o : Option Telling). IsKept old.slots counts pairs × (total ≡ total_of (entries_of old.slots counts)) × IsFed old.slots o)
      (sym same_feed) was)))

  pub entries_grown : entries_of new.slots new_counts ≡ entries_of old.slots counts
  entries_grown = λ i. entries_of (slots_same old new same extent i) (same_counts i)

  pub feed_grown : (feed new_feed : Option Telling) → new_feed ≡ feed → feed_of new.slots new_feed ≡ feed_of old.slots feed
  feed_grown feed new_feed same_feed = λ i. feed_of (slots_same old new same extent i) (same_feed i)
