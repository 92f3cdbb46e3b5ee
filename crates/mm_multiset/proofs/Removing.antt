-- A bag without an entry of the count 0, or unchanged if there was no such entry.
use Rattle.std.proofs.Common.{◌≡◌, ℕ, ◌⊎◌, inl, inr, Bool, true, false, List, ◌∷◌, get_or, map, set, refl, sym, ap, ◌∙◌}
use Rattle.std.specs.Prelude.{IsPermutation, IsTrue}
use Rattle.std.specs.Bool.{OnFalse, OnTrue}
use Rattle.std.proofs.lemmas.List.{map-set}
use Rattle.mm_value.specs.Equality.{same_row}
use Rattle.mm_value.specs.declared.row_ref.RowRef.{RowRef}
use Rattle.mm_value.specs.declared.values.Value.{Value}
use Rattle.mm_partition.specs.Places.{Free, Places}
use Rattle.mm_multiset.specs.Counts.{Entries, IsOnce, count_in, has_entry, row_at, total_of}
use Rattle.mm_multiset.specs.Slots.{entries_of, in_use, left_by}
use Rattle.mm_multiset.specs.declared.entry_ref.EntryRef.{EntryRef}
use Rattle.mm_multiset.proofs.EntryBags.{beside_taken, counts_taken, gone_taken, others_taken, total_taken}

-- The count of the slot is the one that was read.
pub read_count : (counts : List ℕ) (at : RowRef) (i n : ℕ) → i ≡ at.slot → n ≡ get_or counts i 0 → get_or counts at.slot 0 ≡ n
read_count counts at i n place read = ap (λ (k : ℕ). get_or counts k 0) (sym place) ∙ sym read

module _ (old new : Places) (counts : List ℕ) (entry : EntryRef) (once : IsOnce (entries_of old.slots counts)) (r : Bool)
    (taken : OnTrue r (IsPermutation (entries_of old.slots counts) ((row_at (map in_use old.slots) entry, 0) ∷ entries_of new.slots counts)))
    (same : OnFalse r (new ≡ old)) where
  abbrev row : List Value
  row = row_at (map in_use old.slots) entry

  abbrev was : Entries
  was = entries_of old.slots counts

  abbrev now : Entries
  now = entries_of new.slots counts

  pub counts_removed : (q : List Value) → count_in q now ≡ count_in q was
  counts_removed q = by r taken same
    where
      by : (b : Bool) → OnTrue b (IsPermutation was ((row, 0) ∷ now)) → OnFalse b (new ≡ old) → count_in q now ≡ count_in q was
      by true t s = counts_taken row was now once t q
      by false t s = ap (λ (p : Places). count_in q (entries_of p.slots counts)) s

  pub total_removed : total_of now ≡ total_of was
  total_removed = by r taken same
    where
      by : (b : Bool) → OnTrue b (IsPermutation was ((row, 0) ∷ now)) → OnFalse b (new ≡ old) → total_of now ≡ total_of was
      by true t s = total_taken row was now once t
      by false t s = ap (λ (p : Places). total_of (entries_of p.slots counts)) s

  pub others_removed : (q : List Value) → has_entry q now ≡ true → has_entry q was ≡ true
  others_removed q = by r taken same
    where
      by : (b : Bool) → OnTrue b (IsPermutation was ((row, 0) ∷ now)) → OnFalse b (new ≡ old) → has_entry q now ≡ true → has_entry q was ≡ true
      by true t s has = others_taken row was now once t q has
      by false t s has = sym (ap (λ (p : Places). has_entry q (entries_of p.slots counts)) s) ∙ has

  pub beside_removed : (q : List Value) → same_row row q ≡ false → has_entry q now ≡ has_entry q was
  beside_removed q = by r taken same
    where
      by : (b : Bool) → OnTrue b (IsPermutation was ((row, 0) ∷ now)) → OnFalse b (new ≡ old) → same_row row q ≡ false
          → has_entry q now ≡ has_entry q was
      by true t s apart = beside_taken row was now once t q apart
      by false t s apart = ap (λ (p : Places). has_entry q (entries_of p.slots counts)) s

  pub gone_removed : IsTrue r → has_entry row now ≡ false
  gone_removed = by r taken
    where
      by : (b : Bool) → OnTrue b (IsPermutation was ((row, 0) ∷ now)) → IsTrue b → has_entry row now ≡ false
      by true t is = gone_taken row was now once t
      by false t is = absurd (let no : ⊥ = cc in no)

  free_left : (owed : Bool) → in_use (left_by owed row) ≡ Free
  free_left true = refl
  free_left false = refl

  pub slots_removed : (owed : Bool) → OnTrue r (new.slots ≡ set old.slots entry.slot.slot (left_by owed row))
      → (map in_use new.slots ≡ map in_use old.slots)
      ⊎ ((map in_use new.slots ≡ set (map in_use old.slots) entry.slot.slot Free) × (has_entry row now ≡ false))
  slots_removed owed = by r taken same
    where
      by : (b : Bool) → OnTrue b (IsPermutation was ((row, 0) ∷ now)) → OnFalse b (new ≡ old)
          → OnTrue b (new.slots ≡ set old.slots entry.slot.slot (left_by owed row))
          → (map in_use new.slots ≡ map in_use old.slots)
          ⊎ ((map in_use new.slots ≡ set (map in_use old.slots) entry.slot.slot Free) × (has_entry row now ≡ false))
      by true t s left =
          inr (
            ap (map in_use) left ∙ (map-set in_use old.slots entry.slot.slot (left_by owed row)
                ∙ ap (set (map in_use old.slots) entry.slot.slot) (free_left owed)),
            gone_taken row was now once t,
          )
      by false t s left = inl (ap (λ (p : Places). map in_use p.slots) s)
