-- Entries with the count 0 that are removed with a log.
use Rattle.std.proofs.Common.{◌≡◌, ◌≢◌, ℕ, ◌<◌, ◌⊎◌, inl, inr, ⊎_elim, Bool, true, false, true≢false, List, [], ◌∷◌, ◌++◌, ◌||◌, length, get_or, set, refl}
use Rattle.std.proofs.Common.{sym, ap, ◌∙◌, subst, arith}
use Rattle.std.specs.List.{All}
use Rattle.std.proofs.lemmas.Bool.{cases_eq}
use Rattle.std.proofs.lemmas.List.{get_or-set_other, length-set}
use Rattle.std.proofs.lemmas.List.Folds.{list_any-append}
use Rattle.mm_value.specs.declared.values.Value.{Value}
use Rattle.mm_partition.specs.Places.{Content, Free, row_in}
use Rattle.mm_multiset.specs.Counts.{Counts, IsEntry, count_in, has_entry, row_at}
use Rattle.mm_multiset.proofs.SlotLists.{live_inside}
use Rattle.mm_standing.specs.Bags.{IsLean, IsThere, Purged, change_of, entries_at, is_named, names, opposite, row_of, slots_at, undos}
use Rattle.mm_standing.specs.declared.change.ListChange.{ListChange}
use Rattle.mm_standing.proofs.Named.{named_is}
use Rattle.mm_standing.proofs.Steps.{in_front, slot_same, there_still, undos_push}

-- The entry of a change still exists, or its row has none any more.
pub record IsThereOrGone (start bags : List Counts) (c : ListChange) : Type 0 where
  pub list : c.list < length bags
  pub slot : c.entry.slot.slot < length (slots_at bags c.list)
  pub either : (IsThere bags c × (row_of bags c ≡ row_of start c)) ⊎ (has_entry (row_of start c) (entries_at bags c.list) ≡ false)

pub slot_inside : (bags : List Counts) (c : ListChange) → IsThere bags c → c.entry.slot.slot < length (slots_at bags c.list)
slot_inside bags c there = live_inside (slots_at bags c.list) c.entry.slot.slot (row_of bags c) there.entry.live

pub there_first : (bags : List Counts) (c : ListChange) → IsThere bags c → IsThereOrGone bags bags c
there_first bags c there = record { list = there.list; slot = slot_inside bags c there; either = inl (there, refl) }

module _ (start bags new : List Counts) (c : ListChange) (purged : Purged c bags new) where
  slot_left : (d : ListChange) → d.entry.slot.slot < length (slots_at bags d.list) → d.entry.slot.slot < length (slots_at new d.list)
  slot_left d inside =
      ⊎_elim
      (λ same. omega (arith, inside, ap (λ (ss : List Content). length ss) same))
      (λ freed. omega (arith, inside, ap (λ (ss : List Content). length ss) freed.1, length-set (slots_at bags d.list) c.entry.slot.slot Free))
      (purged.slots d.list)

  -- Another entry still exists, or it is the removed one.
  entry_left : (d : ListChange) → IsThere bags d → has_entry (row_of bags d) (entries_at new d.list) ≡ true
      → IsEntry (slots_at new d.list) d.entry (row_of bags d)
  entry_left d it has = ⊎_elim (λ same. subst (λ (ss : List Content). IsEntry ss d.entry (row_of bags d)) (sym same) it.entry) freed (purged.slots d.list)
    where
      freed : (c.list ≡ d.list) × (slots_at new d.list ≡ set (slots_at bags d.list) c.entry.slot.slot Free)
          × (has_entry (row_of bags c) (entries_at new d.list) ≡ false) → IsEntry (slots_at new d.list) d.entry (row_of bags d)
      freed f =
          ⊎_elim
          (λ (same : d.entry.slot.slot ≡ c.entry.slot.slot).
          let rows : row_of bags c ≡ row_of bags d = λ i. row_in (get_or (slots_at bags (f.0 i)) (sym same i) Free) in
          absurd (true≢false (sym has ∙ ap (λ r. has_entry r (entries_at new d.list)) (sym rows) ∙ f.2)))
          (λ (differs : d.entry.slot.slot ≢ c.entry.slot.slot).
          let content : get_or (slots_at new d.list) d.entry.slot.slot Free ≡ get_or (slots_at bags d.list) d.entry.slot.slot Free =
          ap (λ (ss : List Content). get_or ss d.entry.slot.slot Free) f.1
          ∙ get_or-set_other (slots_at bags d.list) c.entry.slot.slot d.entry.slot.slot Free Free differs in
          record { live = content ∙ it.entry.live; hash = it.entry.hash })
          (cases_eq d.entry.slot.slot c.entry.slot.slot)

  pub there_left : (d : ListChange) → IsThereOrGone start bags d → IsThereOrGone start new d
  there_left d t = record {
    list = omega (arith, t.list, purged.size);
    slot = slot_left d t.slot;
    either = ⊎_elim (λ it. by it.0 it.1 (has_entry (row_of bags d) (entries_at new d.list)) refl)
        (λ gone. inr (still_gone (has_entry (row_of start d) (entries_at new d.list)) refl gone)) t.either;
  }
    where
      still_gone : (b : Bool) → has_entry (row_of start d) (entries_at new d.list) ≡ b → has_entry (row_of start d) (entries_at bags d.list) ≡ false → b ≡ false
      still_gone true e gone = absurd (true≢false (sym (purged.others d.list (row_of start d) e) ∙ gone))
      still_gone false e gone = refl

      by : (it : IsThere bags d) → row_of bags d ≡ row_of start d → (b : Bool) → has_entry (row_of bags d) (entries_at new d.list) ≡ b
          → (IsThere new d × (row_of new d ≡ row_of start d)) ⊎ (has_entry (row_of start d) (entries_at new d.list) ≡ false)
      by it same true e =
          let entry = entry_left d it e in
          inl (there_still bags new d it purged.size entry e, slot_same bags new d it purged.size entry ∙ same)
      by it same false e = inr (ap (λ r. has_entry r (entries_at new d.list)) (sym same) ∙ e)

  pub lean_left : (rest : List ListChange) → IsThereOrGone start bags c → IsLean bags (undos start (rest ++ c ∷ [])) → IsLean new (undos start rest)
  lean_left rest there lean list row has is_0 = by (names list row (change_of start c)) refl
    where
      named : is_named list row (undos start (rest ++ c ∷ []))
          ≡ is_named list row (undos start rest) || (names list row (change_of start c) || false)
      named =
          ap (is_named list row) (undos_push start rest c)
          ∙ list_any-append (names list row) (undos start rest) (opposite (change_of start c) ∷ [])

      before_it : has_entry row (entries_at bags list) ≡ true
      before_it = purged.others list row has

      zero : count_in row (entries_at bags list) ≡ 0
      zero = sym (purged.counts list row) ∙ is_0

      by : (b : Bool) → names list row (change_of start c) ≡ b → is_named list row (undos start rest) ≡ true
      by true e =
          let is = named_is list row (change_of start c) e in
          ⊎_elim
          (λ it.
          let none : count_in (row_of bags c) (entries_at bags c.list) ≡ 0 =
          ap (λ r. count_in r (entries_at bags c.list)) (it.1 ∙ sym is.1) ∙ ap (λ l. count_in row (entries_at bags l)) is.0 ∙ zero in
          let gone : has_entry row (entries_at new list) ≡ false =
          ap (λ l. has_entry row (entries_at new l)) (sym is.0) ∙ ap (λ r. has_entry r (entries_at new c.list)) (is.1 ∙ sym it.1)
          ∙ purged.gone it.0 none in
          absurd (true≢false (sym has ∙ gone)))
          (λ gone.
          let lacks : has_entry row (entries_at bags list) ≡ false =
          ap (λ l. has_entry row (entries_at bags l)) (sym is.0) ∙ ap (λ r. has_entry r (entries_at bags c.list)) is.1 ∙ gone in
          absurd (true≢false (sym before_it ∙ lacks)))
          there.either
      by false e =
          in_front (is_named list row (undos start rest)) (names list row (change_of start c)) e (sym named ∙ lean list row before_it zero)
