-- One table of several is changed.
use Rattle.std.proofs.Common.{◌≡◌, ◌≢◌, ℕ, ◌<◌, ◌≤◌, ⊎_elim, List, length, map, get_or, set, sym, ap, ◌∙◌, subst, arith, length-set}
use Rattle.std.proofs.lemmas.Bool.{cases_eq}
use Rattle.std.proofs.lemmas.List.{get_or-map, get_or-set_same, get_or-set_other, get_or_default, map-set, length-map, set-get_or, set-set}
use Rattle.std.proofs.Math.Seq.{map-set_same}
use Rattle.mm_row_order.specs.Refs.{Slots}
use Rattle.mm_tables.specs.Edits.{step_back}
use Rattle.mm_tables.specs.Tables.{Shape, extent_in, extent_of_table, extents_of, no_slots, slots_of, shape_of, state_of, slots_in, keys_of, key_in}
use Rattle.mm_tables.specs.Tables.{back, logged, HoldsAt, KeepsOthers}
use Rattle.mm_tables.specs.declared.edit.Edit.{Edit}
use Rattle.mm_tables.specs.declared.logged_table.LoggedTable.{LoggedTable}

pub HoldsAt-read : (P : LoggedTable → Type 0) (tables : List LoggedTable) (i : ℕ) (t : LoggedTable) → i < length tables → t ≡ get_or tables i t
    → P t → HoldsAt P tables i
HoldsAt-read P tables i t within read here d = subst P (read ∙ get_or_default tables i t d within) here

pub from_HoldsAt : (P : LoggedTable → Type 0) (tables : List LoggedTable) (i : ℕ) (t : LoggedTable) → t ≡ get_or tables i t → HoldsAt P tables i → P t
from_HoldsAt P tables i t read here = subst P (sym read) (here t)

-- the slots, the key and the shape of a table that was read
pub slots_read : (tables : List LoggedTable) (i : ℕ) (t : LoggedTable) → i < length tables → t ≡ get_or tables i t → slots_in tables i ≡ slots_of t
slots_read tables i t within read = get_or-map slots_of tables i t no_slots within ∙ ap slots_of (sym read)

pub extent_read : (tables : List LoggedTable) (i : ℕ) (t : LoggedTable) → i < length tables → t ≡ get_or tables i t
    → extent_in tables i ≡ extent_of_table t
extent_read tables i t within read = get_or-map extent_of_table tables i t 0 within ∙ ap extent_of_table (sym read)

pub key_read : (tables : List LoggedTable) (i : ℕ) (t : LoggedTable) → i < length tables → t ≡ get_or tables i t → key_in tables i ≡ t.rows.key
key_read tables i t within read =
    get_or-map (λ (x : Shape). x.key) (map shape_of tables) i (shape_of t) 0 (subst (λ n. i < n) (sym (length-map tables shape_of)) within)
    ∙ ap (λ (x : Shape). x.key) (get_or-map shape_of tables i t (shape_of t) within ∙ ap shape_of (sym read))

pub extents-same : (tables : List LoggedTable) (i : ℕ) (old new : LoggedTable) → old ≡ get_or tables i old
    → extent_of_table new ≡ extent_of_table old → extents_of (set tables i new) ≡ extents_of tables
extents-same tables i old new read same = map-set_same extent_of_table tables i new old (same ∙ ap extent_of_table read)

-- tables of the same shapes
pub size_from_shapes : (old new : List LoggedTable) → map shape_of new ≡ map shape_of old → length new ≡ length old
size_from_shapes old new same = sym (length-map new shape_of) ∙ (ap length same ∙ length-map old shape_of)

pub key_same : (old new : List LoggedTable) (i : ℕ) → map shape_of new ≡ map shape_of old → key_in new i ≡ key_in old i
key_same old new i same = ap (λ (xs : List Shape). get_or (map (λ (x : Shape). x.key) xs) i 0) same

module _ (tables : List LoggedTable) (i : ℕ) (old new : LoggedTable) (within : i < length tables) (read : old ≡ get_or tables i old) where
  pub shapes-set : shape_of new ≡ shape_of old → map shape_of (set tables i new) ≡ map shape_of tables
  shapes-set same = map-set_same shape_of tables i new old (same ∙ ap shape_of read)

  pub keys-set : new.rows.key ≡ old.rows.key → keys_of (set tables i new) ≡ keys_of tables
  keys-set same =
      let key : Shape → ℕ = λ (x : Shape). x.key in
      let shapes : List Shape = map shape_of tables in
      let here : get_or shapes i (shape_of old) ≡ shape_of old = get_or-map shape_of tables i old (shape_of old) within ∙ ap shape_of (sym read) in
      ap (map key) (map-set shape_of tables i new)
      ∙ map-set_same key shapes i (shape_of new) (shape_of old) (same ∙ ap key (sym here))

  pub state-set : (made : Slots) → slots_of new ≡ made → state_of (set tables i new) ≡ set (state_of tables) i made
  state-set made is = map-set slots_of tables i new ∙ ap (set (state_of tables) i) is

  -- no slot changes
  pub state-same : slots_of new ≡ slots_of old → state_of (set tables i new) ≡ state_of tables
  state-same same = map-set_same slots_of tables i new old (same ∙ ap slots_of read)

  -- the number of used slots
  pub extent-here : extent_in (set tables i new) i ≡ extent_of_table new
  extent-here =
      ap (λ (ns : List ℕ). get_or ns i 0) (map-set extent_of_table tables i new)
      ∙ get_or-set_same (extents_of tables) i (extent_of_table new) 0 (subst (λ n. i < n) (sym (length-map tables extent_of_table)) within)

  pub extent-other : (t : ℕ) → t ≢ i → extent_in (set tables i new) t ≡ extent_in tables t
  extent-other t apart =
      ap (λ (ns : List ℕ). get_or ns t 0) (map-set extent_of_table tables i new)
      ∙ get_or-set_other (extents_of tables) i t (extent_of_table new) 0 apart

  pub extents-fewer : extent_of_table new ≤ extent_of_table old → (t : ℕ) → extent_in (set tables i new) t ≤ extent_in tables t
  extents-fewer fewer t =
      ⊎_elim
      (λ (same : t ≡ i).
      omega (arith, extent-here, extent_read tables i old within read, fewer, ap (extent_in (set tables i new)) same, ap (extent_in tables) same))
      (λ (apart : t ≢ i). omega (arith, extent-other t apart))
      (cases_eq t i)

  pub slots-here : slots_in (set tables i new) i ≡ slots_of new
  slots-here =
      ap (λ ss. get_or ss i no_slots) (map-set slots_of tables i new)
      ∙ get_or-set_same (state_of tables) i (slots_of new) no_slots (subst (λ n. i < n) (sym (length-map tables slots_of)) within)

  pub slots-other : (t : ℕ) → t ≢ i → slots_in (set tables i new) t ≡ slots_in tables t
  slots-other t apart =
      ap (λ ss. get_or ss t no_slots) (map-set slots_of tables i new) ∙ get_or-set_other (state_of tables) i t (slots_of new) no_slots apart

  -- the slots of the table are restored
  pub state-back : (e : Edit) → step_back e (slots_of new) ≡ slots_of old → back (logged i e) (state_of (set tables i new)) ≡ state_of tables
  state-back e was =
      ap (set (state_of (set tables i new)) i) (ap (step_back e) slots-here ∙ (was ∙ sym (slots_read tables i old within read)))
      ∙ (ap (λ ss. set ss i (slots_in tables i)) (map-set slots_of tables i new)
      ∙ (set-set (state_of tables) i (slots_of new) (slots_in tables i) ∙ set-get_or (state_of tables) i no_slots))

  pub HoldsAt-here : (P : LoggedTable → Type 0) → P new → HoldsAt P (set tables i new) i
  HoldsAt-here P here d = subst P (sym (get_or-set_same tables i new d within)) here

  pub HoldsAt-other : (P : LoggedTable → Type 0) (t : ℕ) → t ≢ i → HoldsAt P tables t → HoldsAt P (set tables i new) t
  HoldsAt-other P t apart here d = subst P (sym (get_or-set_other tables i t new d apart)) (here d)

  -- the effect of the change on a table that was read
  pub HoldsAt-turned : (P Q : LoggedTable → Type 0) → (P old → Q new) → HoldsAt P tables i → HoldsAt Q (set tables i new) i
  HoldsAt-turned P Q turn was = HoldsAt-here Q (turn (from_HoldsAt P tables i old read was))

  pub others-set : KeepsOthers i tables (set tables i new)
  others-set t d apart = get_or-set_other tables i t new d apart

  -- each table, the changed one or another
  pub each-set : (P : ℕ → LoggedTable → Type 0) → P i new → ((t : ℕ) → t ≢ i → t < length tables → HoldsAt (P t) tables t)
      → (t : ℕ) → t < length (set tables i new) → HoldsAt (P t) (set tables i new) t
  each-set P here others t inside =
      let there : t < length tables = omega (arith, inside, length-set tables i new) in
      ⊎_elim
      (λ (same : t ≡ i). subst (λ (n : ℕ). HoldsAt (P n) (set tables i new) n) (sym same) (HoldsAt-here (P i) here))
      (λ (apart : t ≢ i). HoldsAt-other (P t) t apart (others t apart there))
      (cases_eq t i)

-- two changes in one table, and no other changes
pub others_both : (i : ℕ) (old mid new : List LoggedTable) → KeepsOthers i old mid → KeepsOthers i mid new → KeepsOthers i old new
others_both i old mid new first second t d apart = second t d apart ∙ first t d apart

-- a step in one table, and further changes of its slots
pub state_next : (state new_state : List Slots) (i : ℕ) (next : Slots) (f : Slots → Slots) → i < length state → new_state ≡ set state i next
    → set new_state i (f (get_or new_state i no_slots)) ≡ set state i (f next)
state_next state new_state i next f within is =
    ap (λ (s : List Slots). set s i (f (get_or s i no_slots))) is
    ∙ (ap (λ (x : Slots). set (set state i next) i (f x)) (get_or-set_same state i next no_slots within) ∙ set-set state i next (f next))

pub slots_next : (state new_state : List Slots) (i : ℕ) (next : Slots) → i < length state → new_state ≡ set state i next
    → get_or new_state i no_slots ≡ next
slots_next state new_state i next within is = ap (λ (s : List Slots). get_or s i no_slots) is ∙ get_or-set_same state i next no_slots within
