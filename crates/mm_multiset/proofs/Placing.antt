-- Inserting a row into a slot, with its count and its pair, and removing it.
use Rattle.std.proofs.Common.{◌≡◌, ℕ, ◌+◌, ◌<◌, ◌≤◌, inl, inr, max, List, [], ◌∷◌, ◌++◌, Bool, true, false, length, get_or, set, refl, sym, ◌∙◌, subst, arith}
use Rattle.std.specs.Prelude.{IsPermutation}
use Rattle.std.proofs.lemmas.List.Sorted.{IsPermutation-cons, IsPermutation-sym, IsPermutation-trans}
use Rattle.mm_value.specs.declared.row_ref.RowRef.{RowRef}
use Rattle.mm_value.specs.declared.values.Value.{Value}
use Rattle.mm_partition.specs.Places.{ChangesOnly, Content, Free, Hidden, Live, Places, extent_of, slot_at}
use Rattle.slot_counts.specs.Numbers.{IsWritten}
use Rattle.mm_multiset.specs.Counts.{has_entry}
use Rattle.mm_multiset.specs.RowHash.{row_hash}
use Rattle.mm_multiset.specs.Counts.{Entries}
use Rattle.mm_multiset.specs.Slots.{AreMarked, IsKept, IsMarked, entries_of, entry_of, left_by, pair_of, pairs_from}
use Rattle.mm_multiset.proofs.EntryBags.{once_put, once_rest}
use Rattle.mm_multiset.proofs.Pairs.{IsPermutation-uncons}
use Rattle.mm_multiset.proofs.SlotEntries.{Turns, turned_at, turned_end}
use Rattle.mm_multiset.proofs.SlotLists.{live_inside, slots_push, slots_set}

abbrev pairs_of : List Content → List (ℕ × RowRef)
pairs_of slots = pairs_from 0 slots

free_count : (s : Content) (n : ℕ) → IsMarked s n → s ≡ Free → n ≡ 0
free_count Free n is free = is
free_count (Live row) n is free = let e : Live row ≡ Free = free in absurd (let no : ⊥ = cc in no)
free_count (Hidden row) n is free = let e : Hidden row ≡ Free = free in absurd (let no : ⊥ = cc in no)

module _ (old new : Places) (at : RowRef) (row : List Value) (counts new_counts : List ℕ) (count : ℕ) (marked : AreMarked old.slots counts)
    (free : slot_at old at ≡ Free) (placed : ChangesOnly old new at (Live row))
    (extent : extent_of new ≡ max (extent_of old) (at.slot + 1)) where
  abbrev turn : List Content → List ℕ → Type 0
  turn slots written = Turns at.slot old.slots slots counts written Free (Live row) 0 count

  pub turned_put : at.slot ≤ extent_of old → IsWritten at.slot count counts new_counts → turn new.slots new_counts
  turned_put within (inl (there, written)) =
      let i : ℕ = at.slot in
      let inside : i < length old.slots = omega (arith, there, marked.size) in
      let slots : new.slots ≡ set old.slots i (Live row) = slots_set old new at (Live row) placed (omega (arith, inside, extent)) inside in
      let had : get_or counts i 0 ≡ 0 = free_count (get_or old.slots i Free) (get_or counts i 0) (marked.each i) free in
      subst (λ l. turn l new_counts) (sym slots)
      (subst (turn (set old.slots i (Live row))) (sym written)
      (subst (λ n. Turns i old.slots (set old.slots i (Live row)) counts (set counts i count) Free (Live row) n count) had
      (subst (λ s. Turns i old.slots (set old.slots i (Live row)) counts (set counts i count) s (Live row) (get_or counts i 0) count) free
      (turned_at i old.slots counts inside marked.size (Live row) count))))
  turned_put within (inr (past, written)) =
      let end : at.slot ≡ length old.slots = omega (arith, within, past, marked.size) in
      let slots : new.slots ≡ old.slots ++ Live row ∷ [] = slots_push old new at (Live row) placed (omega (arith, end, extent)) end in
      subst (λ l. turn l new_counts) (sym slots)
      (subst (turn (old.slots ++ Live row ∷ [])) (sym written)
      (subst (λ i. Turns i old.slots (old.slots ++ Live row ∷ []) counts (counts ++ count ∷ []) Free (Live row) 0 count) (sym end)
      (turned_end old.slots counts marked.size (Live row) count)))

module _ (i : ℕ) (slots new_slots : List Content) (counts new_counts : List ℕ) (row : List Value) (count : ℕ) where
  module _ (turns : Turns i slots new_slots counts new_counts Free (Live row) 0 count) where
    -- The row has one more entry.
    pub entries_put : IsPermutation (entries_of new_slots new_counts) ((row, count) ∷ entries_of slots counts)
    entries_put =
        IsPermutation-trans (entries_of new_slots new_counts) ((row, count) ∷ turns.rest) ((row, count) ∷ entries_of slots counts) turns.after
        (IsPermutation-cons (row, count) turns.rest (entries_of slots counts) (IsPermutation-sym (entries_of slots counts) turns.rest turns.before))

    pub kept_put : (pairs new_pairs : List (ℕ × RowRef)) (hash : ℕ) → IsKept slots counts pairs
        → has_entry row (entries_of slots counts) ≡ false → hash ≡ row_hash row → IsPermutation new_pairs ((hash, record { slot = i }) ∷ pairs)
        → IsKept new_slots new_counts new_pairs
    kept_put pairs new_pairs hash kept none is put = record {
      marked = turns.marked kept.marked tt;
      once = once_put row count (entries_of slots counts) (entries_of new_slots new_counts) kept.once none entries_put;
      hashed =
          let at : RowRef = record { slot = i } in
          let same : (hash, at) ≡ (row_hash row, at) = λ j. (is j, at) in
          let behind : IsPermutation pairs turns.pairs = IsPermutation-trans pairs (pairs_of slots) turns.pairs kept.hashed turns.pairs_before in
          IsPermutation-trans new_pairs ((hash, at) ∷ pairs) (pairs_of new_slots) put
          (IsPermutation-trans ((hash, at) ∷ pairs) ((hash, at) ∷ turns.pairs) (pairs_of new_slots)
          (IsPermutation-cons (hash, at) pairs turns.pairs behind)
          (subst (λ p. IsPermutation (p ∷ turns.pairs) (pairs_of new_slots)) (sym same)
          (IsPermutation-sym (pairs_of new_slots) ((row_hash row, at) ∷ turns.pairs) turns.pairs_after)));
    }

  module _ (gone : Content) (turns : Turns i slots new_slots counts new_counts (Live row) gone count 0) (no_entry : entry_of gone 0 ≡ [])
      (no_pair : pair_of i gone ≡ []) where
    after : IsPermutation (entries_of new_slots new_counts) turns.rest
    after = subst (λ (l : Entries). IsPermutation (entries_of new_slots new_counts) (l ++ turns.rest)) no_entry turns.after

    pairs_after : IsPermutation (pairs_of new_slots) turns.pairs
    pairs_after = subst (λ (l : List (ℕ × RowRef)). IsPermutation (pairs_of new_slots) (l ++ turns.pairs)) no_pair turns.pairs_after

    -- The row has no entry any more.
    pub entries_taken : IsPermutation (entries_of slots counts) ((row, count) ∷ entries_of new_slots new_counts)
    entries_taken =
        IsPermutation-trans (entries_of slots counts) ((row, count) ∷ turns.rest) ((row, count) ∷ entries_of new_slots new_counts) turns.before
        (IsPermutation-cons (row, count) turns.rest (entries_of new_slots new_counts)
        (IsPermutation-sym (entries_of new_slots new_counts) turns.rest after))

    pub kept_taken : (pairs new_pairs : List (ℕ × RowRef)) (hash : ℕ) → IsMarked gone 0 → IsKept slots counts pairs → hash ≡ row_hash row
        → IsPermutation pairs ((hash, record { slot = i }) ∷ new_pairs) → IsKept new_slots new_counts new_pairs
    kept_taken pairs new_pairs hash is_marked kept is taken = record {
      marked = turns.marked kept.marked is_marked;
      once = once_rest row count (entries_of slots counts) (entries_of new_slots new_counts) kept.once entries_taken;
      hashed =
          let at : RowRef = record { slot = i } in
          let same : (hash, at) ≡ (row_hash row, at) = λ j. (is j, at) in
          let before : IsPermutation pairs ((row_hash row, at) ∷ turns.pairs) =
          IsPermutation-trans pairs (pairs_of slots) ((row_hash row, at) ∷ turns.pairs) kept.hashed turns.pairs_before
          in
          let without : IsPermutation ((hash, at) ∷ new_pairs) ((hash, at) ∷ turns.pairs) =
          IsPermutation-trans ((hash, at) ∷ new_pairs) pairs ((hash, at) ∷ turns.pairs) (IsPermutation-sym pairs ((hash, at) ∷ new_pairs) taken)
          (subst (λ p. IsPermutation pairs (p ∷ turns.pairs)) (sym same) before)
          in
          IsPermutation-trans new_pairs turns.pairs (pairs_of new_slots) (IsPermutation-uncons (hash, at) new_pairs turns.pairs without)
          (IsPermutation-sym (pairs_of new_slots) turns.pairs pairs_after);
    }

-- A row that is hidden and then released is removed.
pub changes_twice : (old mid new : Places) (at : RowRef) (first second : Content) → ChangesOnly old mid at first → ChangesOnly mid new at second
    → ChangesOnly old new at second
changes_twice old mid new at first second a b = record { changed = b.changed; others = λ other apart. b.others other apart ∙ a.others other apart }

module _ (old new : Places) (at : RowRef) (row : List Value) (gone : Content) (counts : List ℕ) (marked : AreMarked old.slots counts)
    (live : slot_at old at ≡ Live row) (freed : ChangesOnly old new at gone) (extent : extent_of new ≡ extent_of old) where
  pub turned_taken : Turns at.slot old.slots new.slots counts (set counts at.slot 0) (Live row) gone
      (get_or counts at.slot 0) 0
  turned_taken =
      let i : ℕ = at.slot in
      let inside : i < length old.slots = live_inside old.slots i row live in
      let slots : new.slots ≡ set old.slots i gone = slots_set old new at gone freed extent inside in
      subst (λ l. Turns i old.slots l counts (set counts i 0) (Live row) gone (get_or counts i 0) 0) (sym slots)
      (subst (λ s. Turns i old.slots (set old.slots i gone) counts (set counts i 0) s gone (get_or counts i 0) 0) live
      (turned_at i old.slots counts inside marked.size gone 0))

-- What a removed entry leaves has no entry and no pair.
pub left_entry : (owed : Bool) (row : List Value) → entry_of (left_by owed row) 0 ≡ []
left_entry true row = refl
left_entry false row = refl

pub left_pair : (owed : Bool) (row : List Value) (i : ℕ) → pair_of i (left_by owed row) ≡ []
left_pair true row i = refl
left_pair false row i = refl

pub left_marked : (owed : Bool) (row : List Value) → IsMarked (left_by owed row) 0
left_marked true row = refl
left_marked false row = refl
