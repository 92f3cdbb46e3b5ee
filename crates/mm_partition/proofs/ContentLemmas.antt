-- The content of a reference, after its slot or its cells are written.
use Rattle.std.proofs.Common.{◌≡◌, ◌≢◌, ℕ, zero, suc, ◌+◌, ◌^◌, ◌<◌, List, [], ◌∷◌, ◌++◌, Option, Some, None, length, map, get_or, set, refl}
use Rattle.std.proofs.Common.{sym, ap, ◌∙◌, subst, ⊎_elim, arith}
use Rattle.std.specs.Prelude.{slice_get}
use Rattle.std.proofs.lemmas.Bool.{cases_eq}
use Rattle.std.proofs.lemmas.Option.{slice_get_within, slice_get_read, slice_get-map, get_or_from_slice_get}
use Rattle.std.proofs.lemmas.List.{length-map}
use Rattle.std.specs.Option.{option_map}
use Rattle.mm_partition.specs.Prefixes.{row_prefix}
use Rattle.mm_value.specs.Prefix.{order_prefix}
use Rattle.mm_value.specs.declared.row_ref.RowRef.{RowRef}
use Rattle.mm_value.specs.declared.col_type.ColType.{ColType}
use Rattle.mm_value.specs.declared.values.Value.{Value}
use Rattle.mm_partition.specs.declared.columns.Column.{Column}
use Rattle.mm_partition.specs.declared.slots.State.{State}
use Rattle.mm_partition.specs.declared.slots.State.TheVariants as state
use Rattle.mm_partition.specs.Cells.{row_of, types_of, cell, type_in}
use Rattle.mm_partition.specs.Types.{HasTypes}
use Rattle.mm_partition.proofs.CellLemmas.{row_of-typed, row_of-set, types_of-set}
use Rattle.mm_partition.specs.Places.{Content, Places, Free, Live, Hidden, slot_at, content_at, extent_of, ChangesOnly, IsUnchanged}
use Rattle.mm_partition.specs.Places.{AreRowsStorable, AreReferencesSmall, IsStorableIn}
use Rattle.mm_partition.specs.Stored.{content, contents_from}

-- states after a write or an append
pub slice_get-set_same : (states : List State) (i : ℕ) (s : State) → i < length states → slice_get (set states i s) i ≡ Some s
slice_get-set_same [] i s within = absurd (let no : ⊥ = omega arith in no)
slice_get-set_same (x ∷ xs) zero s within = refl
slice_get-set_same (x ∷ xs) (suc i) s within = slice_get-set_same xs i s (omega arith)

pub slice_get-set_other : {X : Type 0} (states : List X) (i k : ℕ) (s : X) → k ≢ i → slice_get (set states i s) k ≡ slice_get states k
slice_get-set_other [] i k s apart = refl
slice_get-set_other (x ∷ xs) zero zero s apart = absurd (apart refl)
slice_get-set_other (x ∷ xs) zero (suc k) s apart = refl
slice_get-set_other (x ∷ xs) (suc i) zero s apart = refl
slice_get-set_other (x ∷ xs) (suc i) (suc k) s apart = slice_get-set_other xs i k s (λ same. apart (ap (λ n. suc n) same))

pub slice_get-push_same : {X : Type 0} (states : List X) (s : X) → slice_get (states ++ s ∷ []) (length states) ≡ Some s
slice_get-push_same [] s = refl
slice_get-push_same (x ∷ xs) s = slice_get-push_same xs s

pub slice_get-push_other : {X : Type 0} (states : List X) (k : ℕ) (s : X) → k ≢ length states → slice_get (states ++ s ∷ []) k ≡ slice_get states k
slice_get-push_other [] zero s apart = absurd (apart refl)
slice_get-push_other [] (suc k) s apart = refl
slice_get-push_other (x ∷ xs) zero s apart = refl
slice_get-push_other (x ∷ xs) (suc k) s apart = slice_get-push_other xs k s (λ same. apart (ap (λ n. suc n) same))

pub length-contents : (i : ℕ) (columns : List Column) (states : List State) → length (contents_from i columns states) ≡ length states
length-contents i columns [] = refl
length-contents i columns (s ∷ ss) = ap (λ k. suc k) (length-contents (suc i) columns ss)

-- the content of a slot that may not exist
abbrev pub content_if : Option State → List Value → Content
content_if None row = Free
content_if (Some s) row = content s row

get_or-contents_from : (i k : ℕ) (columns : List Column) (states : List State)
    → get_or (contents_from i columns states) k Free ≡ content_if (slice_get states k) (row_of columns (i + k))
get_or-contents_from i k columns [] = refl
get_or-contents_from i zero columns (s ∷ ss) = ap (λ n. content s (row_of columns n)) (let e : i ≡ i + 0 = omega arith in e)
get_or-contents_from i (suc k) columns (s ∷ ss) =
    get_or-contents_from (suc i) k columns ss
    ∙ ap (λ n. content_if (slice_get ss k) (row_of columns n)) (let e : suc i + k ≡ i + suc k = omega arith in e)

pub get_or-contents : (k : ℕ) (columns : List Column) (states : List State)
    → get_or (contents_from 0 columns states) k Free ≡ content_if (slice_get states k) (row_of columns k)
get_or-contents k columns states =
    get_or-contents_from 0 k columns states ∙ ap (λ n. content_if (slice_get states k) (row_of columns n)) (let e : 0 + k ≡ k = omega arith in e)

-- partitions with these columns and states
abbrev pub places_of : List Column → List State → ℕ → Places
places_of columns states room = record { slots = contents_from 0 columns states; room = room; types = types_of columns }

-- the content of the slot at an index
pub content_at-is : (columns : List Column) (states : List State) (room : ℕ) (old : Places) (i : ℕ) → places_of columns states room ≡ old
    → content_if (slice_get states i) (row_of columns i) ≡ content_at old i
content_at-is columns states room old i view = sym (get_or-contents i columns states) ∙ ap (λ (p : Places). content_at p i) view

-- a slot in this state, with this row
pub record Stands (columns : List Column) (states : List State) (i : ℕ) (s : State) (row : List Value) : Type 0 where
  pub within : i < length states
  pub state_is : slice_get states i ≡ Some s
  pub row_is : row_of columns i ≡ row

live_in : (s : Option State) (r row : List Value) → content_if s r ≡ Live row → (s ≡ Some state.Live) × (r ≡ row)
live_in None r row is = cc
live_in (Some state.Free) r row is = cc
live_in (Some state.Live) r row is = let e : r ≡ row = cc in (refl, e)
live_in (Some state.Hidden) r row is = cc

hidden_in : (s : Option State) (r row : List Value) → content_if s r ≡ Hidden row → (s ≡ Some state.Hidden) × (r ≡ row)
hidden_in None r row is = cc
hidden_in (Some state.Free) r row is = cc
hidden_in (Some state.Live) r row is = cc
hidden_in (Some state.Hidden) r row is = let e : r ≡ row = cc in (refl, e)

-- a live slot
pub live_slot : (columns : List Column) (states : List State) (room : ℕ) (old : Places) (row : List Value) (i : ℕ)
    → places_of columns states room ≡ old → content_at old i ≡ Live row → Stands columns states i state.Live row
live_slot columns states room old row i view is =
    let found = live_in (slice_get states i) (row_of columns i) row (content_at-is columns states room old i view ∙ is) in
    record { within = slice_get_within states i state.Live found.0; state_is = found.0; row_is = found.1 }

pub live_at : (columns : List Column) (states : List State) (room : ℕ) (old : Places) (at : RowRef) (row : List Value) (i : ℕ)
    → places_of columns states room ≡ old → at.slot ≡ i → slot_at old at ≡ Live row → Stands columns states i state.Live row
live_at columns states room old at row i view place is = live_slot columns states room old row i view (ap (content_at old) (sym place) ∙ is)

pub hidden_at : (columns : List Column) (states : List State) (room : ℕ) (old : Places) (at : RowRef) (row : List Value) (i : ℕ)
    → places_of columns states room ≡ old → at.slot ≡ i → slot_at old at ≡ Hidden row → Stands columns states i state.Hidden row
hidden_at columns states room old at row i view place is =
    let here : content_at old i ≡ Hidden row = ap (content_at old) (sym place) ∙ is in
    let found = hidden_in (slice_get states i) (row_of columns i) row (content_at-is columns states room old i view ∙ here) in
    record { within = slice_get_within states i state.Hidden found.0; state_is = found.0; row_is = found.1 }

pub live_within : (columns : List Column) (states : List State) (room : ℕ) (old : Places) (at : RowRef) (row : List Value)
    → places_of columns states room ≡ old → slot_at old at ≡ Live row → at.slot < length states
live_within columns states room old at row view is = (live_slot columns states room old row at.slot view is).within

pub hidden_within : (columns : List Column) (states : List State) (room : ℕ) (old : Places) (at : RowRef) (row : List Value)
    → places_of columns states room ≡ old → slot_at old at ≡ Hidden row → at.slot < length states
hidden_within columns states room old at row view is = (hidden_at columns states room old at row at.slot view refl is).within

-- two references to one slot are equal
same_reference : (a b : RowRef) → a.slot ≡ b.slot → a ≡ b
same_reference a b same = ap {B = RowRef} (λ s. record { slot = s }) same

-- The content of one slot is another, since its state or its cells were written, and the other slots are unchanged.
pub record Written (old_columns new_columns : List Column) (old_states new_states : List State) (i : ℕ) (now : Content) : Type 0 where
  pub here : content_if (slice_get new_states i) (row_of new_columns i) ≡ now
  pub states : (k : ℕ) → k ≢ i → slice_get new_states k ≡ slice_get old_states k
  pub cells : (k : ℕ) → k ≢ i → row_of new_columns k ≡ row_of old_columns k

-- the content of the other slots
others_hold : (old_columns new_columns : List Column) (old_states new_states : List State) (i : ℕ) (now : Content) (k : ℕ)
    → Written old_columns new_columns old_states new_states i now → k ≢ i
    → content_if (slice_get new_states k) (row_of new_columns k) ≡ content_if (slice_get old_states k) (row_of old_columns k)
others_hold old_columns new_columns old_states new_states i now k written apart =
    ap (λ s. content_if s (row_of new_columns k)) (written.states k apart)
    ∙ ap (λ r. content_if (slice_get old_states k) r) (written.cells k apart)

changes-at : (old_columns new_columns : List Column) (old_states new_states : List State) (old_room new_room i : ℕ) (at : RowRef) (now : Content)
    → at.slot ≡ i → Written old_columns new_columns old_states new_states i now
    → ChangesOnly (places_of old_columns old_states old_room) (places_of new_columns new_states new_room) at now
changes-at old_columns new_columns old_states new_states old_room new_room i at now place written = record {
  changed = get_or-contents at.slot new_columns new_states ∙ ap (λ k. content_if (slice_get new_states k) (row_of new_columns k)) place ∙ written.here;
  others = λ other apart.
      let away : other.slot ≢ i = λ same. apart (same_reference other at (same ∙ sym place)) in
      get_or-contents other.slot new_columns new_states
      ∙ (others_hold old_columns new_columns old_states new_states i now other.slot written away
      ∙ sym (get_or-contents other.slot old_columns old_states));
}

pub ChangesOnly-at : (old : Places) (old_columns new_columns : List Column) (old_states new_states : List State) (old_room new_room i : ℕ) (at : RowRef)
    (now : Content) → places_of old_columns old_states old_room ≡ old → at.slot ≡ i
    → Written old_columns new_columns old_states new_states i now → ChangesOnly old (places_of new_columns new_states new_room) at now
ChangesOnly-at old old_columns new_columns old_states new_states old_room new_room i at now view place written =
    subst (λ p. ChangesOnly p (places_of new_columns new_states new_room) at now) view
    (changes-at old_columns new_columns old_states new_states old_room new_room i at now place written)

-- each row has values within their limits, as `IsStored` states it
abbrev pub Storable : List Column → List State → Type 0
Storable columns states = (i : ℕ) → IsStorableIn (get_or (contents_from 0 columns states) i Free)

pub Storable-written : (old_columns new_columns : List Column) (old_states new_states : List State) (i : ℕ) (now : Content)
    → Written old_columns new_columns old_states new_states i now → IsStorableIn now → Storable old_columns old_states → Storable new_columns new_states
Storable-written old_columns new_columns old_states new_states i now written stored old k =
    subst IsStorableIn (sym (get_or-contents k new_columns new_states))
    (⊎_elim
    (λ (same : k ≡ i). subst IsStorableIn (sym (ap (λ n. content_if (slice_get new_states n) (row_of new_columns n)) same ∙ written.here)) stored)
    (λ (apart : k ≢ i). subst IsStorableIn
    (get_or-contents k old_columns old_states ∙ sym (others_hold old_columns new_columns old_states new_states i now k written apart)) (old k))
    (cases_eq k i))

-- a slot with a row gets another state or other values
pub Written-slot : (old_columns new_columns : List Column) (states : List State) (i : ℕ) (s : State) (row : List Value) → i < length states
    → row_of new_columns i ≡ row → ((k : ℕ) → k ≢ i → row_of new_columns k ≡ row_of old_columns k)
    → Written old_columns new_columns states (set states i s) i (content s row)
Written-slot old_columns new_columns states i s row within row_is others = record {
  here = ap (λ x. content_if x (row_of new_columns i)) (slice_get-set_same states i s within) ∙ ap (content s) row_is;
  states = λ k apart. slice_get-set_other states i k s apart;
  cells = others;
}

pub Written-cells : (old_columns new_columns : List Column) (states : List State) (i : ℕ) (s : State) (row : List Value) → slice_get states i ≡ Some s
    → row_of new_columns i ≡ row → ((k : ℕ) → k ≢ i → row_of new_columns k ≡ row_of old_columns k)
    → Written old_columns new_columns states states i (content s row)
Written-cells old_columns new_columns states i s row state_is row_is others = record {
  here = ap (λ x. content_if x (row_of new_columns i)) state_is ∙ ap (content s) row_is;
  states = λ k apart. refl;
  cells = others;
}

-- a slot is appended
pub Written-pushed : (old_columns new_columns : List Column) (states new_states : List State) (i : ℕ) (s : State) (row : List Value) → i ≡ length states
    → new_states ≡ states ++ s ∷ [] → row_of new_columns i ≡ row → ((k : ℕ) → k ≢ i → row_of new_columns k ≡ row_of old_columns k)
    → Written old_columns new_columns states new_states i (content s row)
Written-pushed old_columns new_columns states new_states i s row place pushed row_is others = record {
  here = ap (λ x. content_if x (row_of new_columns i))
      (ap (λ xs. slice_get xs i) pushed ∙ (ap (slice_get (states ++ s ∷ [])) place ∙ slice_get-push_same states s))
      ∙ ap (content s) row_is;
  states = λ k apart. ap (λ xs. slice_get xs k) pushed ∙ slice_get-push_other states k s (λ same. apart (same ∙ sym place));
  cells = others;
}

-- the values of the row in a slot
pub stored_in : (columns : List Column) (states : List State) (i : ℕ) (s : State) (row : List Value) → slice_get states i ≡ Some s → row_of columns i ≡ row
    → Storable columns states → IsStorableIn (content s row)
stored_in columns states i s row state_is row_is all =
    subst IsStorableIn
    (get_or-contents i columns states ∙ (ap (λ x. content_if x (row_of columns i)) state_is ∙ ap (content s) row_is))
    (all i)

-- a property of the contents of all slots holds for all references
pub rows_storable : (columns : List Column) (states : List State) (room : ℕ) (old : Places) → places_of columns states room ≡ old
    → Storable columns states → AreRowsStorable old
rows_storable columns states room old view all at = subst (λ (p : Places). IsStorableIn (slot_at p at)) view (all at.slot)

-- live references are small if there are few slots
pub references_small : (columns : List Column) (states : List State) (room : ℕ) (old : Places) → places_of columns states room ≡ old
    → length states < 2 ^ 32 → AreReferencesSmall old
references_small columns states room old view few at (row, is) = omega (arith, live_within columns states room old at row view is, few)

-- the number of slots
pub extent_is : (columns : List Column) (states : List State) (room : ℕ) (old : Places) → places_of columns states room ≡ old → extent_of old ≡ length states
extent_is columns states room old view = ap (λ (p : Places). length p.slots) (sym view) ∙ length-contents 0 columns states

-- a free slot
pub free_at : (columns : List Column) (states : List State) (room : ℕ) (old : Places) (at : RowRef) (i : ℕ) → places_of columns states room ≡ old
    → at.slot ≡ i → content_if (slice_get states i) (row_of columns i) ≡ Free → slot_at old at ≡ Free
free_at columns states room old at i view place free = ap (content_at old) place ∙ (sym (content_at-is columns states room old i view) ∙ free)

-- the value of a live row in a column is the value of its cell
pub cell_at : (columns : List Column) (states : List State) (room : ℕ) (old : Places) (row : List Value) (i column : ℕ) (c : Column)
    → places_of columns states room ≡ old → content_at old i ≡ Live row → column < length columns → c ≡ get_or columns column c
    → slice_get row column ≡ Some (cell c i)
cell_at columns states room old row i column c view is within read =
    let stands : Stands columns states i state.Live row = live_slot columns states room old row i view is in
    ap (λ r. slice_get r column) (sym stands.row_is)
    ∙ (slice_get-map (λ x. cell x i) columns column ∙ ap (option_map (λ x. cell x i)) (slice_get_read columns (length columns) column c refl within read))

pub value_at : (columns : List Column) (states : List State) (room : ℕ) (old : Places) (at : RowRef) (row : List Value) (i column : ℕ) (c : Column)
    → places_of columns states room ≡ old → at.slot ≡ i → slot_at old at ≡ Live row → column < length columns → c ≡ get_or columns column c
    → slice_get row column ≡ Some (cell c i)
value_at columns states room old at row i column c view place is within read =
    cell_at columns states room old row i column c view (ap (content_at old) (sym place) ∙ is) within read

-- as many types as columns
pub width_is : (columns : List Column) (states : List State) (room : ℕ) (old : Places) → places_of columns states room ≡ old → length old.types ≡ length columns
width_is columns states room old view = ap (λ (p : Places). length p.types) (sym view) ∙ length-map columns type_in

-- each row is unchanged if the states and the cells are
pub IsUnchanged-at : (old : Places) (old_columns new_columns : List Column) (old_states new_states : List State) (old_room new_room : ℕ)
    → places_of old_columns old_states old_room ≡ old → new_states ≡ old_states → ((k : ℕ) → row_of new_columns k ≡ row_of old_columns k)
    → IsUnchanged old (places_of new_columns new_states new_room)
IsUnchanged-at old old_columns new_columns old_states new_states old_room new_room view same rows at =
    get_or-contents at.slot new_columns new_states
    ∙ (ap (λ xs. content_if (slice_get xs at.slot) (row_of new_columns at.slot)) same
    ∙ (ap (λ r. content_if (slice_get old_states at.slot) r) (rows at.slot) ∙ content_at-is old_columns old_states old_room old at.slot view))

-- the values stay within their limits
pub Storable-same : (old_columns new_columns : List Column) (old_states new_states : List State) → new_states ≡ old_states
    → ((k : ℕ) → row_of new_columns k ≡ row_of old_columns k) → Storable old_columns old_states → Storable new_columns new_states
Storable-same old_columns new_columns old_states new_states same rows all i =
    subst IsStorableIn
    (get_or-contents i old_columns old_states
    ∙ (ap (λ xs. content_if (slice_get xs i) (row_of old_columns i)) (sym same)
    ∙ (ap (λ r. content_if (slice_get new_states i) r) (sym (rows i)) ∙ sym (get_or-contents i new_columns new_states))))
    (all i)

-- a live row has the types of the columns
pub live_typed : (columns : List Column) (states : List State) (room : ℕ) (old : Places) (at : RowRef) (row : List Value)
    → places_of columns states room ≡ old → slot_at old at ≡ Live row → HasTypes old.types row
live_typed columns states room old at row view is =
    let stands : Stands columns states at.slot state.Live row = live_slot columns states room old row at.slot view is in
    subst (HasTypes old.types) stands.row_is
    (subst (λ (p : Places). HasTypes p.types (row_of columns at.slot)) view (row_of-typed columns at.slot))

-- the contents are unchanged if the cells are
contents-same : (i : ℕ) (old_columns new_columns : List Column) (states : List State) → ((k : ℕ) → row_of new_columns k ≡ row_of old_columns k)
    → contents_from i new_columns states ≡ contents_from i old_columns states
contents-same i old_columns new_columns [] rows = refl
contents-same i old_columns new_columns (s ∷ ss) rows =
    ap (λ r. content s r ∷ contents_from (suc i) new_columns ss) (rows i)
    ∙ ap (λ cs. content s (row_of old_columns i) ∷ cs) (contents-same (suc i) old_columns new_columns ss rows)

-- writing a column that keeps its type and its cells changes nothing
pub places-same : (columns : List Column) (states : List State) (room i : ℕ) (c new : Column) (old : Places) → places_of columns states room ≡ old
    → c ≡ get_or columns i c → type_in new ≡ type_in c → ((k : ℕ) → cell new k ≡ cell c k) → places_of (set columns i new) states room ≡ old
places-same columns states room i c new old view read typed cells =
    ap (λ (xs : List Content). record { slots = xs; room = room; types = types_of (set columns i new) })
    (contents-same 0 columns (set columns i new) states (λ k. row_of-set columns i k c new read (cells k)))
    ∙ (ap (λ (ts : List ColType). record { slots = contents_from 0 columns states; room = room; types = ts }) (types_of-set columns i c new read typed)
    ∙ view)

-- the prefix of a live row in a column is that of its cell
pub prefix_at : (columns : List Column) (states : List State) (room : ℕ) (old : Places) (at : RowRef) (row : List Value) (i column : ℕ) (c : Column)
    → places_of columns states room ≡ old → at.slot ≡ i → slot_at old at ≡ Live row → column < length columns → c ≡ get_or columns column c
    → row_prefix column row ≡ order_prefix (cell c i)
prefix_at columns states room old at row i column c view place is within read =
    get_or_from_slice_get (map order_prefix row) column (order_prefix (cell c i)) 0
    (slice_get-map order_prefix row column
    ∙ ap (option_map order_prefix)
    (value_at columns states room old at row i column c view place is within read))
