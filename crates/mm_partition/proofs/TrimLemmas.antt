-- Giving back the highest free slots.
use Rattle.std.proofs.Common.{◌≡◌, ◌≢◌, ℕ, suc, zero, ◌+◌, ◌-◌, ◌<◌, ◌≤◌, List, [], ◌∷◌, ◌++◌, length, true, Option, Some, None, cond, get_or, set, take}
use Rattle.std.proofs.Common.{refl, sym, ap}
use Rattle.std.proofs.Common.{◌∙◌, subst, ⊎_elim, arith, length-append}
use Rattle.std.specs.Prelude.{Contains, IsPermutation, slice_get, count_by}
use Rattle.std.specs.List.Sorted.{IsNonDecreasing}
use Rattle.std.proofs.lemmas.Bool.{cases_eq, cases_lt}
use Rattle.std.proofs.lemmas.List.Elements.{Contains-append_left, Contains-append_right}
use Rattle.std.proofs.lemmas.Grind.{get_or_default_zero}
use Rattle.std.proofs.lemmas.List.Sorted.{All-permutation, length_permutation}
use Rattle.std.proofs.lemmas.List.Sums.{sum_by-append}
use Rattle.std.proofs.lemmas.Option.{slice_get_within, slice_get_past, slice_get_cases, get_or_from_slice_get}
use Rattle.mm_value.specs.declared.row_ref.RowRef.{RowRef}
use Rattle.mm_value.specs.declared.values.Value.{Value}
use Rattle.mm_partition.specs.declared.slots.State.{State}
use Rattle.mm_partition.specs.declared.slots.State.TheVariants as state
use Rattle.mm_partition.specs.declared.columns.Column.{Column}
use Rattle.mm_partition.specs.Cells.{row_of}
use Rattle.mm_partition.specs.Places.{Content, Places, extent_of, slot_at, holds_row, IsUnchanged, IsTaken, IsStorableIn}
use Rattle.mm_partition.specs.Stored.{content, contents_from, is_taken, IsFreeStack, IsCut, EndsFree, EndsTaken}
use Rattle.mm_partition.proofs.ContentLemmas.{content_if, get_or-contents, content_at-is, length-contents, places_of, Storable}
use Rattle.mm_partition.proofs.ContentLemmas.{slice_get-set_other, slice_get-push_same, slice_get-push_other}
use Rattle.mm_partition.proofs.FreeLemmas.{IsFreeStack-given, some_free, without_last}
use Rattle.mm_partition.proofs.Permuted.{AllPairs-permutation}

-- the stack in another order
pub IsFreeStack-permuted : (states : List State) (free new_free : List ℕ) → IsPermutation free new_free → IsFreeStack states free
    → IsFreeStack states new_free
IsFreeStack-permuted states free new_free moved stack = record {
  each = All-permutation (λ i. slice_get states i ≡ Some state.Free) free new_free moved stack.each;
  apart = AllPairs-permutation (λ a b. a ≢ b) (λ a b apart same. apart (sym same)) free new_free moved stack.apart;
  counted = ap (λ n. n + count_by is_taken states) (length_permutation free new_free moved) ∙ stack.counted;
}

-- a list and its last element
split_last : {X : Type 0} (n : ℕ) (xs : List X) (d : X) → length xs ≡ suc n → xs ≡ take n xs ++ get_or xs n d ∷ []
split_last n [] d size = absurd (let no : ⊥ = omega arith in no)
split_last zero (x ∷ []) d size = refl
split_last zero (x ∷ (y ∷ ys)) d size = absurd (let no : ⊥ = omega arith in no)
split_last (suc n) (x ∷ xs) d size = ap (λ l. x ∷ l) (split_last n xs d (omega arith))

-- each free slot is on the stack
is_stacked : (n : ℕ) (states : List State) (free : List ℕ) (i : ℕ) → length free ≡ n → slice_get states i ≡ Some state.Free → IsFreeStack states free
    → Contains free i
is_stacked zero states free i size there stack = absurd (let no : ⊥ = omega (arith, some_free states i there, stack.counted) in no)
is_stacked (suc n) states free i size there stack =
    let last : ℕ = get_or free n 0 in
    let rest : List ℕ = take n free in
    let split : free ≡ rest ++ last ∷ [] = split_last n free 0 size in
    let rest_size : length rest ≡ n = omega (arith, ap {A = List ℕ} length split, length-append rest (last ∷ [])) in
    subst (λ xs. Contains xs i) (sym split)
    (⊎_elim
    (λ (same : i ≡ last). let here : Contains (last ∷ []) i = (0, omega arith, sym same) in Contains-append_right rest (last ∷ []) i here)
    (λ (apart : i ≢ last). Contains-append_left rest (last ∷ []) i
    (is_stacked n (set states last state.Live) rest i rest_size (slice_get-set_other states last i state.Live apart ∙ there)
    (IsFreeStack-given states rest last (subst (IsFreeStack states) split stack))))
    (cases_eq i last))

-- the slots before the last one, which is free
split_states : (states : List State) → EndsFree states → states ≡ take (length states - 1) states ++ state.Free ∷ []
split_states states (i, place, there) =
    let before : length states - 1 ≡ i = omega arith in
    subst (λ n. states ≡ take n states ++ state.Free ∷ []) (sym before)
    (split_last i states state.Free (omega arith)
    ∙ ap (λ s. take i states ++ s ∷ []) (get_or_from_slice_get states i state.Free state.Free there))

-- the last slot of a sorted stack is the highest free slot
highest_is_last : (states : List State) (free : List ℕ) (i m : ℕ) → i + 1 ≡ length states → slice_get states i ≡ Some state.Free → IsNonDecreasing free
    → IsFreeStack states free → length free ≡ suc m → get_or free m 0 ≡ i
highest_is_last states free i m place there sorted stack size =
    let here : Contains free i = is_stacked (length free) states free i refl there stack in
    let last_there : slice_get states (get_or free m 0) ≡ Some state.Free = stack.each m 0 (omega arith) in
    let low : i ≤ get_or free m i = subst (λ n. n ≤ get_or free m i) here.2 (sorted here.0 m i (omega (arith, here.1)) (omega arith)) in
    omega (arith, slice_get_within states (get_or free m 0) state.Free last_there, low, get_or_default_zero free m i (omega arith))

-- the last slot is removed from the states and from the stack
pub IsFreeStack-dropped : (states : List State) (free : List ℕ) → EndsFree states → IsNonDecreasing free → IsFreeStack states free
    → IsFreeStack (take (length states - 1) states) (take (length free - 1) free)
IsFreeStack-dropped states free (i, place, there) sorted stack =
    let here : Contains free i = is_stacked (length free) states free i refl there stack in
    let m : ℕ = length free - 1 in
    let size : length free ≡ suc m = omega (arith, here.1) in
    let rest : List State = take (length states - 1) states in
    let split : states ≡ rest ++ state.Free ∷ [] = split_states states (i, place, there) in
    let rest_size : i ≡ length rest = omega (arith, ap {A = List State} length split, length-append rest (state.Free ∷ [])) in
    let free_split : free ≡ take m free ++ i ∷ [] = split_last m free 0 size
    ∙ ap (λ n. take m free ++ n ∷ []) (highest_is_last states free i m place there sorted stack size) in
    without_last rest (take m free) i rest_size
    (subst (λ xs. IsFreeStack xs (take m free ++ i ∷ [])) split (subst (IsFreeStack states) free_split stack))

pub IsCut-same : (states : List State) → IsCut states states
IsCut-same states = record {
  size = omega arith;
  below = λ i within. refl;
  above = λ i past within. absurd (let no : ⊥ = omega arith in no);
}

-- one more slot is removed
cut_more : (old states : List State) → IsCut old (states ++ state.Free ∷ []) → IsCut old states
cut_more old states cut =
    let size : length (states ++ state.Free ∷ []) ≡ length states + 1 = length-append states (state.Free ∷ []) in
    record {
      size = omega (arith, size, cut.size);
      below = λ i within.
          sym (slice_get-push_other states i state.Free (λ same. let no : ⊥ = omega arith in no)) ∙ cut.below i (omega (arith, size));
      above = λ i past within. ⊎_elim
          (λ (last : i < length states + 1). let place : i ≡ length states = omega arith in
          sym (cut.below i (omega (arith, size))) ∙ (ap (slice_get (states ++ state.Free ∷ [])) place ∙ slice_get-push_same states state.Free))
          (λ (beyond : length states + 1 ≤ i). cut.above i (omega (arith, size)) within) (cases_lt i (length states + 1));
    }

pub IsCut-dropped : (old states : List State) → EndsFree states → IsCut old states → IsCut old (take (length states - 1) states)
IsCut-dropped old states ends cut = cut_more old (take (length states - 1) states) (subst (IsCut old) (split_states states ends) cut)

-- each slot has the same content
abbrev pub HoldsSame : (old_columns new_columns : List Column) (old_states new_states : List State) → Type 0
HoldsSame old_columns new_columns old_states new_states =
    (i : ℕ) → content_if (slice_get new_states i) (row_of new_columns i) ≡ content_if (slice_get old_states i) (row_of old_columns i)

pub HoldsSame-cut : (old_columns new_columns : List Column) (old_states new_states : List State) → IsCut old_states new_states
    → ((k : ℕ) → k < length new_states → row_of new_columns k ≡ row_of old_columns k) → HoldsSame old_columns new_columns old_states new_states
HoldsSame-cut old_columns new_columns old_states new_states cut rows i = ⊎_elim
    (λ (kept : i < length new_states).
    ap (λ s. content_if s (row_of new_columns i)) (cut.below i kept) ∙ ap (content_if (slice_get old_states i)) (rows i kept))
    (λ (past : length new_states ≤ i).
    ap (λ s. content_if s (row_of new_columns i)) (slice_get_past new_states i past)
    ∙ sym (⊎_elim (λ (was : i < length old_states). ap (λ s. content_if s (row_of old_columns i)) (cut.above i past was))
    (λ (never : length old_states ≤ i). ap (λ s. content_if s (row_of old_columns i)) (slice_get_past old_states i never))
    (cases_lt i (length old_states))))
    (cases_lt i (length new_states))

pub IsUnchanged-held : (old : Places) (old_columns new_columns : List Column) (old_states new_states : List State) (old_room new_room : ℕ)
    → places_of old_columns old_states old_room ≡ old → HoldsSame old_columns new_columns old_states new_states
    → IsUnchanged old (places_of new_columns new_states new_room)
IsUnchanged-held old old_columns new_columns old_states new_states old_room new_room view same at =
    get_or-contents at.slot new_columns new_states ∙ (same at.slot ∙ content_at-is old_columns old_states old_room old at.slot view)

pub Storable-held : (old_columns new_columns : List Column) (old_states new_states : List State) → HoldsSame old_columns new_columns old_states new_states
    → Storable old_columns old_states → Storable new_columns new_states
Storable-held old_columns new_columns old_states new_states same all i =
    subst IsStorableIn (get_or-contents i old_columns old_states ∙ (sym (same i) ∙ sym (get_or-contents i new_columns new_states))) (all i)

-- a slot has a row exactly if its state says so
holds-taken : (s : State) (row : List Value) → holds_row (content s row) ≡ is_taken s
holds-taken state.Free row = refl
holds-taken state.Live row = refl
holds-taken state.Hidden row = refl

none_is_some : (s : State) → None ≡ Some s → ⊥
none_is_some s same = cc

state_taken : (states : List State) (columns : List Column) (i : ℕ) (s : Option State) → slice_get states i ≡ s → i + 1 ≡ length states → EndsTaken states
    → holds_row (content_if s (row_of columns i)) ≡ true
state_taken states columns i None there last ends =
    ⊎_elim (λ found. absurd (none_is_some found.0 (sym there ∙ found.2)))
    (λ past. absurd (let no : ⊥ = omega (arith, past.0) in no))
    (slice_get_cases states i).1
state_taken states columns i (Some s) there last ends = holds-taken s (row_of columns i) ∙ ends i s last there

-- the highest slot has a row
pub highest_taken : (columns : List Column) (states : List State) (room : ℕ) (at : RowRef) → EndsTaken states
    → at.slot + 1 ≡ extent_of (places_of columns states room) → IsTaken (slot_at (places_of columns states room) at)
highest_taken columns states room at ends place =
    let last : at.slot + 1 ≡ length states = place ∙ length-contents 0 columns states in
    ap holds_row (get_or-contents at.slot columns states)
    ∙ state_taken states columns at.slot (slice_get states at.slot) refl last ends

pub count_taken : (i : ℕ) (columns : List Column) (states : List State) → count_by holds_row (contents_from i columns states) ≡ count_by is_taken states
count_taken i columns [] = refl
count_taken i columns (s ∷ ss) =
    omega (
      arith,
      sum_by-append (λ (x : Content). cond (holds_row x) 1 0) (content s (row_of columns i) ∷ []) (contents_from (suc i) columns ss),
      sum_by-append (λ (x : State). cond (is_taken x) 1 0) (s ∷ []) ss,
      count_taken (suc i) columns ss,
      ap {B = ℕ} (λ b. cond b 1 0) (holds-taken s (row_of columns i)),
    )
