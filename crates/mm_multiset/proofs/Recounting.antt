-- The entry of a slot, with another count.
use Rattle.std.proofs.Common.{◌≡◌, ◌≢◌, ℕ, zero, suc, ℤ, pos, ◌+ℤ◌, Bool, true, false, true≢false, cond, is_some}
use Rattle.std.proofs.Common.{List, [], ◌∷◌, ◌++◌, Option, Some, None, get_or, set, refl, sym, ap, ◌∙◌, subst}
use Rattle.std.proofs.lemmas.List.{set-get_or}
use Rattle.std.specs.Map.{lookup}
use Rattle.std.specs.Option.{unwrap_or}
use Rattle.mm_value.proofs.SameRows.{rows_exact}
use Rattle.mm_value.specs.Equality.{same_row}
use Rattle.mm_value.specs.declared.row_ref.RowRef.{RowRef}
use Rattle.mm_value.specs.declared.values.Value.{Value}
use Rattle.mm_partition.specs.Places.{Content, Free, Hidden, Live}
use Rattle.mm_multiset.specs.Counts.{Adds, Entries, count_in, has_entry, total_of}
use Rattle.mm_multiset.specs.Slots.{IsKept, entries_of, entry_of}
use Rattle.slot_counts.specs.Numbers.{IsRecounted}
use Rattle.mm_multiset.proofs.EntryBags.{adds_recounted, count_found, entry_found, once_recounted, total_recounted}
use Rattle.mm_multiset.proofs.SlotEntries.{Turns, turned_at}
use Rattle.mm_multiset.proofs.SlotLists.{live_inside}

-- If no slot has the row, the row has no entry.
pub none_there : (row : List Value) (slots : List Content) (counts : List ℕ) → ((i : ℕ) → get_or slots i Free ≢ Live row)
    → has_entry row (entries_of slots counts) ≡ false
none_there row [] counts none = refl
none_there row (slot ∷ slots) [] none = refl
none_there row (slot ∷ slots) (n ∷ counts) none = by slot (none zero) (none_there row slots counts (λ i. none (suc i)))
  where
    apart : (b : Bool) (r : List Value) (o : Option ℕ) → same_row row r ≡ b → Live r ≢ Live row → is_some o ≡ false → is_some (cond b (Some n) o) ≡ false
    apart true r o is other rest = absurd (other (ap Live (sym ((rows_exact row r).0 is))))
    apart false r o is other rest = rest

    by : (s : Content) → s ≢ Live row → has_entry row (entries_of slots counts) ≡ false → has_entry row (entry_of s n ++ entries_of slots counts) ≡ false
    by Free other rest = rest
    by (Live r) other rest = apart (same_row row r) r (lookup (same_row row) (entries_of slots counts)) refl other rest
    by (Hidden r) other rest = rest

-- A row without an entry has the count 0.
pub count_none : (row : List Value) (es : Entries) → has_entry row es ≡ false → count_in row es ≡ 0
count_none row es none = by (lookup (same_row row) es) none
  where
    by : (o : Option ℕ) → is_some o ≡ false → unwrap_or o 0 ≡ 0
    by (Some n) h = absurd (true≢false h)
    by None h = refl

module _ (slots : List Content) (counts : List ℕ) (pairs : List (ℕ × RowRef)) (i : ℕ) (row : List Value) (kept : IsKept slots counts pairs)
    (live : get_or slots i Free ≡ Live row) where
  turned : (count : ℕ) → Turns i slots slots counts (set counts i count) (Live row) (Live row) (get_or counts i 0) count
  turned count =
      subst (λ s. Turns i slots slots counts (set counts i count) s (Live row) (get_or counts i 0) count) live
      (subst (λ l. Turns i slots l counts (set counts i count) (get_or slots i Free) (Live row) (get_or counts i 0) count)
      (ap (set slots i) (sym live) ∙ set-get_or slots i Free)
      (turned_at i slots counts (live_inside slots i row live) kept.marked.size (Live row) count))

  same : Turns i slots slots counts (set counts i (get_or counts i 0)) (Live row) (Live row) (get_or counts i 0) (get_or counts i 0)
  same = turned (get_or counts i 0)

  -- The row of a slot has an entry with the slot's count.
  pub count_there : count_in row (entries_of slots counts) ≡ get_or counts i 0
  count_there =
      count_found row (get_or counts i 0) (get_or counts i 0) same.rest (entries_of slots counts) (entries_of slots counts) (pos 0) kept.once
      same.before same.before

  pub entry_there : has_entry row (entries_of slots counts) ≡ true
  entry_there =
      entry_found row (get_or counts i 0) (get_or counts i 0) same.rest (entries_of slots counts) (entries_of slots counts) (pos 0) kept.once
      same.before same.before

  module _ (new_counts : List ℕ) (change : ℤ) (recounted : IsRecounted i change counts new_counts) where
    now : Turns i slots slots counts new_counts (Live row) (Live row) (get_or counts i 0) recounted.count
    now =
        subst (λ l. Turns i slots slots counts l (Live row) (Live row) (get_or counts i 0) recounted.count) (sym recounted.set) (turned recounted.count)

    pub kept_there : IsKept slots new_counts pairs
    kept_there = record {
      marked = now.marked kept.marked tt;
      once = once_recounted row (get_or counts i 0) recounted.count now.rest (entries_of slots counts) (entries_of slots new_counts) change kept.once
          now.before now.after;
      hashed = kept.hashed;
    }

    pub adds_there : Adds (record { row = row; count = change }) (entries_of slots counts) (entries_of slots new_counts)
    adds_there =
        adds_recounted row (get_or counts i 0) recounted.count now.rest (entries_of slots counts) (entries_of slots new_counts) change kept.once
        now.before now.after recounted.changed

    pub total_there : pos (total_of (entries_of slots new_counts)) ≡ pos (total_of (entries_of slots counts)) +ℤ change
    total_there =
        total_recounted row (get_or counts i 0) recounted.count now.rest (entries_of slots counts) (entries_of slots new_counts) change kept.once
        now.before now.after recounted.changed
