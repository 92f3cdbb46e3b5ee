-- The stack of free slots, after a slot is reused, freed, appended or hidden.
use Rattle.std.proofs.Common.{◌≡◌, ◌≢◌, ℕ, ◌+◌, ◌-◌, ◌<◌, ◌≤◌, List, [], ◌∷◌, ◌++◌, length, true, false, Some, cond, get_or, set, refl, sym, ap, ◌∙◌}
use Rattle.std.proofs.Common.{subst, arith, length-append, length-set}
use Rattle.std.specs.Prelude.{All, slice_get, count_by}
use Rattle.std.proofs.lemmas.List.{get_or_append_left, get_or_push}
use Rattle.std.proofs.lemmas.List.Elements.{All-push}
use Rattle.std.proofs.lemmas.List.Quantifiers.{all_pairs_push}
use Rattle.std.proofs.lemmas.List.Sums.{sum_by-set, sum_by-append, count_by-le-length}
use Rattle.std.proofs.lemmas.Option.{slice_get_within, get_or_from_slice_get}
use Rattle.mm_partition.specs.declared.slots.State.{State}
use Rattle.mm_partition.specs.declared.slots.State.TheVariants as state
use Rattle.mm_partition.specs.declared.columns.Column.{Column}
use Rattle.mm_partition.specs.Cells.{size_of, room_of, cell, Fits}
use Rattle.mm_partition.proofs.CellLemmas.{Fits-set, row_of-set}
use Rattle.mm_partition.specs.Stored.{is_taken, IsFreeStack, IsStored}
use Rattle.mm_partition.proofs.ContentLemmas.{Storable, Storable-same, slice_get-set_same, slice_get-set_other, slice_get-push_other}

-- the number of rows of a slot, as `counted` counts it
taken : State → ℕ
taken s = cond (is_taken s) 1 0

-- no slot of the stack has a row
apart_from_taken : (states : List State) (free : List ℕ) (i : ℕ) (s : State) → slice_get states i ≡ Some s → is_taken s ≡ true → IsFreeStack states free
    → (k d : ℕ) → k < length free → get_or free k d ≢ i
apart_from_taken states free i s there row stack k d within same =
    let free_there : Some s ≡ Some state.Free = sym there ∙ ap (slice_get states) (sym same) ∙ stack.each k d within in
    let is : s ≡ state.Free = cc in
    let both : false ≡ true = ap is_taken (sym is) ∙ row in cc

-- a slot with a row gets another state with a row
pub IsFreeStack-kept : (states : List State) (free : List ℕ) (i : ℕ) (was s : State) → slice_get states i ≡ Some was → is_taken was ≡ true → is_taken s ≡ true
    → IsFreeStack states free → IsFreeStack (set states i s) free
unfolding taken
IsFreeStack-kept states free i was s there row new_row stack = record {
  each = λ k d within. slice_get-set_other states i (get_or free k d) s (apart_from_taken states free i was there row stack k d within) ∙ stack.each k d within;
  apart = stack.apart;
  counted = omega (
    arith,
    length-set states i s,
    sum_by-set taken states i s was (slice_get_within states i was there),
    ap taken (get_or_from_slice_get states i was was there),
    ap {B = ℕ} (λ b. cond b 1 0) row,
    ap {B = ℕ} (λ b. cond b 1 0) new_row,
    stack.counted,
  );
}

-- a slot is freed
pub IsFreeStack-freed : (states : List State) (free : List ℕ) (i : ℕ) (was : State) → slice_get states i ≡ Some was → is_taken was ≡ true
    → IsFreeStack states free → IsFreeStack (set states i state.Free) (free ++ i ∷ [])
unfolding taken
IsFreeStack-freed states free i was there row stack =
    let away = apart_from_taken states free i was there row stack in
    let within : i < length states = slice_get_within states i was there in
    record {
      each = All-push (λ k. slice_get (set states i state.Free) k ≡ Some state.Free) free i
          (λ k d inside. slice_get-set_other states i (get_or free k d) state.Free (away k d inside) ∙ stack.each k d inside)
          (slice_get-set_same states i state.Free within);
      apart = all_pairs_push (λ a b. a ≢ b) free i stack.apart (λ k d inside. away k d inside);
      counted = omega (
        arith,
        length-set states i state.Free,
        length-append free (i ∷ []),
        sum_by-set taken states i state.Free was within,
        ap taken (get_or_from_slice_get states i was was there),
        ap {B = ℕ} (λ b. cond b 1 0) row,
        stack.counted,
      );
    }

-- the last slot of the stack is free
pub last_is_free : (states : List State) (rest : List ℕ) (i : ℕ) → IsFreeStack states (rest ++ i ∷ []) → slice_get states i ≡ Some state.Free
last_is_free states rest i stack =
    let size : length rest < length (rest ++ i ∷ []) = omega (arith, length-append rest (i ∷ [])) in
    ap (slice_get states) (sym (get_or_push rest i 0 (length rest) refl)) ∙ stack.each (length rest) 0 size

-- the last slot of the stack gets a row
pub IsFreeStack-given : (states : List State) (rest : List ℕ) (i : ℕ) → IsFreeStack states (rest ++ i ∷ []) → IsFreeStack (set states i state.Live) rest
unfolding taken
IsFreeStack-given states rest i stack =
    let there : slice_get states i ≡ Some state.Free = last_is_free states rest i stack in
    let size : length (rest ++ i ∷ []) ≡ length rest + 1 = length-append rest (i ∷ []) in
    let away : (k d : ℕ) → k < length rest → get_or rest k d ≢ i = λ k d inside same.
    stack.apart k (length rest) d (omega arith) (omega (arith, size))
    (get_or_append_left rest (i ∷ []) d k inside ∙ (same ∙ sym (get_or_push rest i d (length rest) refl))) in
    record {
      each = λ k d inside.
          slice_get-set_other states i (get_or rest k d) state.Live (away k d inside)
          ∙ (ap (slice_get states) (sym (get_or_append_left rest (i ∷ []) d k inside)) ∙ stack.each k d (omega (arith, size, inside)));
      apart = λ a b d less inside same. stack.apart a b d less (omega (arith, size, inside))
          (get_or_append_left rest (i ∷ []) d a (omega (arith, less, inside)) ∙ (same ∙ sym (get_or_append_left rest (i ∷ []) d b inside)));
      counted = omega (
        arith,
        length-set states i state.Live,
        size,
        sum_by-set taken states i state.Live state.Free (slice_get_within states i state.Free there),
        ap taken (get_or_from_slice_get states i state.Free state.Free there),
        stack.counted,
      );
    }

-- a slot with a row is appended if none is free
pub IsFreeStack-pushed : (states : List State) → IsFreeStack states [] → IsFreeStack (states ++ state.Live ∷ []) []
unfolding taken
IsFreeStack-pushed states stack = record {
  each = λ k d inside. absurd (let no : ⊥ = omega arith in no);
  apart = λ a b d less inside. absurd (let no : ⊥ = omega arith in no);
  counted = omega (arith, stack.counted, length-append states (state.Live ∷ []), sum_by-append taken states (state.Live ∷ []));
}

-- if a slot has a row, not all are free
pub some_taken : (states : List State) (free : List ℕ) (i : ℕ) (was : State) → slice_get states i ≡ Some was → is_taken was ≡ true
    → IsFreeStack states free → length free < length states
unfolding taken
some_taken states free i was there row stack =
    omega (
      arith,
      sum_by-set taken states i state.Free was (slice_get_within states i was there),
      ap taken (get_or_from_slice_get states i was was there),
      ap {B = ℕ} (λ b. cond b 1 0) row,
      stack.counted,
    )

-- slots are written, and their number stays
pub IsStored-at : (states new_states : List State) (free new_free : List ℕ) (capacity free_capacity spare : ℕ) (columns new_columns : List Column)
    → length new_states ≡ length states → IsFreeStack new_states new_free → All (Fits (length states) spare) new_columns
    → Storable new_columns new_states → IsStored states free capacity free_capacity spare columns
    → IsStored new_states new_free capacity free_capacity spare new_columns
IsStored-at states new_states free new_free capacity free_capacity spare columns new_columns same stack cells stored old = record {
  free_slots = stack;
  states_room = omega (arith, same, old.states_room);
  free_room = omega (arith, same, old.free_room);
  few = omega (arith, same, old.few);
  cells = subst (λ n. All (Fits n spare) new_columns) (sym same) cells;
  storable = stored;
}

pub IsFreeStack-none : IsFreeStack [] []
IsFreeStack-none = record {
  each = λ k d inside. absurd (let no : ⊥ = omega arith in no);
  apart = λ a b d less inside. absurd (let no : ⊥ = omega arith in no);
  counted = refl;
}

-- a slot with a row is appended if none is free
pub IsStored-pushed : (states new_states : List State) (free new_free : List ℕ) (capacity new_capacity free_capacity new_free_capacity spare index : ℕ)
    (columns new_columns : List Column)
    → index ≡ length states → free ≡ [] → new_free ≡ [] → new_states ≡ states ++ state.Live ∷ [] → 1 ≤ spare → capacity ≤ new_capacity
    → free_capacity ≤ new_free_capacity
    → ((more : ℕ) → All (Fits index (more + 1)) columns → All (Fits (index + 1) more) new_columns)
    → Storable new_columns new_states → IsStored states free capacity free_capacity spare columns
    → IsStored new_states new_free new_capacity new_free_capacity (spare - 1) new_columns
IsStored-pushed states new_states free new_free capacity new_capacity free_capacity new_free_capacity spare index columns new_columns place none
    still_none pushed some room free_room fits stored old =
    let size : length new_states ≡ index + 1 = ap length pushed ∙ omega (arith, length-append states (state.Live ∷ []), place) in
    let spares : spare ≡ spare - 1 + 1 = omega arith in
    record {
      free_slots = subst (λ xs. IsFreeStack xs new_free) (sym pushed)
          (subst (IsFreeStack (states ++ state.Live ∷ [])) (sym still_none) (IsFreeStack-pushed states (subst (IsFreeStack states) none old.free_slots)));
      states_room = omega (arith, size, place, room, some, old.states_room);
      free_room = omega (arith, size, place, free_room, some, old.free_room);
      few = omega (arith, size, place, some, old.few);
      cells = subst (λ n. All (Fits n (spare - 1)) new_columns) (sym size)
          (fits (spare - 1) (subst (λ n. All (Fits n (spare - 1 + 1)) columns) (sym place)
          (subst (λ m. All (Fits (length states) m) columns) spares old.cells)));
      storable = stored;
    }

pub is_empty : (xs : List ℕ) → length xs ≡ 0 → xs ≡ []
is_empty [] none = refl
is_empty (x ∷ xs) none = absurd (let no : ⊥ = omega arith in no)

-- a column is written that keeps its type and its cells
pub IsStored-column : (states : List State) (free : List ℕ) (capacity free_capacity spare : ℕ) (columns : List Column) (i : ℕ) (c new : Column)
    → i < length columns → c ≡ get_or columns i c → size_of new ≡ size_of c → room_of c ≤ room_of new → ((k : ℕ) → cell new k ≡ cell c k)
    → IsStored states free capacity free_capacity spare columns → IsStored states free capacity free_capacity spare (set columns i new)
IsStored-column states free capacity free_capacity spare columns i c new within read size room same old = record {
  free_slots = old.free_slots;
  states_room = old.states_room;
  free_room = old.free_room;
  few = old.few;
  cells = Fits-set (length states) spare columns i c new within read size room old.cells;
  storable = Storable-same columns (set columns i new) states states refl (λ k. row_of-set columns i k c new read (same k)) old.storable;
}

-- if a slot is free, not all have rows
pub some_free : (states : List State) (i : ℕ) → slice_get states i ≡ Some state.Free → count_by is_taken states < length states
unfolding taken
some_free states i there =
    omega (
      arith,
      sum_by-set taken states i state.Live state.Free (slice_get_within states i state.Free there),
      ap taken (get_or_from_slice_get states i state.Free state.Free there),
      count_by-le-length is_taken (set states i state.Live),
      length-set states i state.Live,
    )

-- the last slot is free, and is the last one on the stack
pub without_last : (states : List State) (free : List ℕ) (i : ℕ) → i ≡ length states → IsFreeStack (states ++ state.Free ∷ []) (free ++ i ∷ [])
    → IsFreeStack states free
unfolding taken
without_last states free i place stack =
    let size : length (free ++ i ∷ []) ≡ length free + 1 = length-append free (i ∷ []) in
    let away : (k d : ℕ) → k < length free → get_or free k d ≢ length states = λ k d inside same.
    stack.apart k (length free) d (omega arith) (omega (arith, size))
    (get_or_append_left free (i ∷ []) d k inside ∙ (same ∙ (sym place ∙ sym (get_or_push free i d (length free) refl)))) in
    record {
      each = λ k d inside.
          sym (slice_get-push_other states (get_or free k d) state.Free (away k d inside))
          ∙ (ap (slice_get (states ++ state.Free ∷ [])) (sym (get_or_append_left free (i ∷ []) d k inside))
          ∙ stack.each k d (omega (arith, size, inside)));
      apart = λ a b d less inside same. stack.apart a b d less (omega (arith, size, inside))
          (get_or_append_left free (i ∷ []) d a (omega (arith, less, inside)) ∙ (same ∙ sym (get_or_append_left free (i ∷ []) d b inside)));
      counted = omega (arith, size, stack.counted, length-append states (state.Free ∷ []), sum_by-append taken states (state.Free ∷ []));
    }
