-- The contents of the slots after a change of one slot.
use Rattle.std.proofs.Common.{◌≡◌, ◌≢◌, ℕ, ◌+◌, ◌<◌, ◌≤◌, List, [], ◌∷◌, ◌++◌, length, get_or, set, sym, ap, ◌∙◌, ⊎_elim, arith}
use Rattle.std.proofs.lemmas.Bool.{cases_eq, cases_lt}
use Rattle.std.proofs.lemmas.List.{ext_get_or, get_or-set_same, get_or-set_other, get_or_append_left, get_or_past, get_or_push, length-set, length_push}
use Rattle.mm_value.specs.declared.row_ref.RowRef.{RowRef}
use Rattle.mm_value.specs.declared.values.Value.{Value}
use Rattle.mm_partition.specs.Places.{ChangesOnly, Content, Free, IsUnchanged, Live, Places, extent_of}

-- The slot of a live row exists.
pub live_inside : (slots : List Content) (i : ℕ) (row : List Value) → get_or slots i Free ≡ Live row → i < length slots
live_inside slots i row is =
    ⊎_elim
    (λ (h : i < length slots). h)
    (λ (h : length slots ≤ i). let no : Free ≡ Live row = sym (get_or_past slots i Free h) ∙ is in absurd (let f : ⊥ = cc in f))
    (cases_lt i (length slots))

-- If each reference has the same content, so has each index.
pub slots_same : (old new : Places) → IsUnchanged old new → extent_of new ≡ extent_of old → new.slots ≡ old.slots
slots_same old new same extent =
    ext_get_or Free new.slots old.slots extent (λ k below. same (record { slot = k }))

module _ (old new : Places) (at : RowRef) (now : Content) (changes : ChangesOnly old new at now) where
  there : (k : ℕ) → k ≢ at.slot → get_or new.slots k Free ≡ get_or old.slots k Free
  there k apart =
      changes.others (record { slot = k }) (λ same. apart (ap (λ (r : RowRef). r.slot) same))

  -- An existing slot has another content.
  pub slots_set : extent_of new ≡ extent_of old → at.slot < extent_of old → new.slots ≡ set old.slots at.slot now
  slots_set extent within =
      ext_get_or Free new.slots (set old.slots at.slot now) (extent ∙ sym (length-set old.slots at.slot now))
      (λ k below.
      ⊎_elim
      (λ (e : k ≡ at.slot).
      ap (λ (n : ℕ). get_or new.slots n Free) e
      ∙ (changes.changed
      ∙ (sym (get_or-set_same old.slots at.slot now Free within)
      ∙ ap (λ (n : ℕ). get_or (set old.slots at.slot now) n Free) (sym e))))
      (λ (apart : k ≢ at.slot). there k apart ∙ sym (get_or-set_other old.slots at.slot k now Free apart))
      (cases_eq k at.slot))

  -- A slot was appended.
  pub slots_push : extent_of new ≡ extent_of old + 1 → at.slot ≡ extent_of old → new.slots ≡ old.slots ++ now ∷ []
  slots_push extent end =
      ext_get_or Free new.slots (old.slots ++ now ∷ []) (extent ∙ sym (length_push old.slots now))
      (λ k below.
      ⊎_elim
      (λ (e : k ≡ at.slot).
      ap (λ (n : ℕ). get_or new.slots n Free) e ∙ (changes.changed ∙ sym (get_or_push old.slots now Free k (sym (e ∙ end)))))
      (λ (apart : k ≢ at.slot).
      let inside : k < length old.slots = omega (arith, below, extent, end, apart) in
      there k apart ∙ sym (get_or_append_left old.slots (now ∷ []) Free k inside))
      (cases_eq k at.slot))
