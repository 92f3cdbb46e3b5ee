-- Two slots whose cells are exchanged.
use Rattle.std.proofs.Common.{◌≡◌, ◌≢◌, ℕ, ◌+◌, ◌<◌, ◌⊎◌, List, [], ◌∷◌, length, map, get_or, set, swap, Option, Some, None, refl, sym, ap, ◌∙◌, subst, ⊎_elim}
use Rattle.std.specs.Prelude.{slice_get}
use Rattle.std.proofs.lemmas.Bool.{cases_eq}
use Rattle.std.proofs.lemmas.List.{get_or-map, map-set}
use Rattle.std.proofs.lemmas.Option.{slice_get_read, slice_get-map, slice_get_within}
use Rattle.std.specs.Option.{option_map}
use Rattle.mm_value.specs.declared.row_ref.RowRef.{RowRef}
use Rattle.mm_value.specs.declared.values.Value.{Value}
use Rattle.mm_partition.specs.declared.columns.Column.{Column}
use Rattle.mm_partition.specs.declared.slots.State.{State}
use Rattle.mm_partition.specs.declared.slots.State.TheVariants as state
use Rattle.mm_partition.specs.Cells.{row_of, cell, RowsExchanged}
use Rattle.mm_partition.specs.Places.{Places, Live, Hidden, content_at, row_in, slot_at, ChangesTwo, IsStorableIn, IsTaken}
use Rattle.mm_partition.specs.Types.{HasTypes}
use Rattle.mm_partition.proofs.CellLemmas.{seam, here-more, cell_at, length-row_of, row_of-typed}
use Rattle.mm_partition.proofs.ContentLemmas.{places_of, content_if, get_or-contents, Stands, Storable, stored_in, hidden_at}

-- a list with two elements exchanged, element by element
pub map-swap : {X Y : Type 0} (f : X → Y) (xs : List X) (a b : ℕ) → a < length xs → b < length xs → map f (swap xs a b) ≡ swap (map f xs) a b
map-swap f [] a b in_a in_b = refl
map-swap f (d ∷ ys) a b in_a in_b =
    map-set f (set (d ∷ ys) a (get_or (d ∷ ys) b d)) b (get_or (d ∷ ys) a d)
    ∙ (ap (λ r. set r b (f (get_or (d ∷ ys) a d))) (map-set f (d ∷ ys) a (get_or (d ∷ ys) b d))
    ∙ (ap (λ x. set (set (map f (d ∷ ys)) a x) b (f (get_or (d ∷ ys) a d))) (sym (get_or-map f (d ∷ ys) b d (f d) in_b))
    ∙ ap (λ x. set (set (map f (d ∷ ys)) a (get_or (map f (d ∷ ys)) b (f d))) b x) (sym (get_or-map f (d ∷ ys) a d (f d) in_a))))

-- the cells of a slot that gets those of another one, after one more column
pub taken-more : (cs cs0 : List Column) (i a b : ℕ) (c new : Column) → row_of cs a ≡ seam i (row_of cs0 b) (row_of cs0 a) → i < length cs0
    → c ≡ get_or cs0 i c → cell new a ≡ cell c b → row_of (set cs i new) a ≡ seam (i + 1) (row_of cs0 b) (row_of cs0 a)
taken-more cs cs0 i a b c new so_far within column taken =
    here-more cs cs0 (row_of cs0 b) i a new (cell c b) so_far within (length-row_of cs0 b) (cell_at cs0 i b c within column) taken

module _ (old : Places) (old_columns new_columns : List Column) (states : List State) (room new_room i j : ℕ) (a b : RowRef) (x y : List Value)
    (view : places_of old_columns states room ≡ old) (place_a : a.slot ≡ i) (place_b : b.slot ≡ j)
    (live : Stands old_columns states i state.Live x) (hidden : Stands old_columns states j state.Hidden y)
    (cells : RowsExchanged old_columns new_columns i j) where
  row_a : content_if (slice_get states i) (row_of new_columns i) ≡ Live y
  row_a = ap (λ s. content_if s (row_of new_columns i)) live.state_is ∙ ap Live (cells.first ∙ hidden.row_is)

  row_b : content_if (slice_get states j) (row_of new_columns j) ≡ Hidden x
  row_b = ap (λ s. content_if s (row_of new_columns j)) hidden.state_is ∙ ap Hidden (cells.second ∙ live.row_is)

  away : (r q : RowRef) (k : ℕ) → q.slot ≡ k → r ≢ q → r.slot ≢ k
  away r q k place apart same = apart (λ n. record { slot = (same ∙ sym place) n })

  changed_two : ChangesTwo (places_of old_columns states room) (places_of new_columns states new_room) a b (Live y) (Hidden x)
  changed_two = record {
    first = get_or-contents a.slot new_columns states ∙ (ap (λ k. content_if (slice_get states k) (row_of new_columns k)) place_a ∙ row_a);
    second = get_or-contents b.slot new_columns states ∙ (ap (λ k. content_if (slice_get states k) (row_of new_columns k)) place_b ∙ row_b);
    others = λ r not_a not_b.
        get_or-contents r.slot new_columns states
        ∙ (ap (λ w. content_if (slice_get states r.slot) w) (cells.others r.slot (away r a i place_a not_a) (away r b j place_b not_b))
        ∙ sym (get_or-contents r.slot old_columns states));
  }

  pub ChangesTwo-at : ChangesTwo old (places_of new_columns states new_room) a b (Live y) (Hidden x)
  ChangesTwo-at = subst (λ p. ChangesTwo p (places_of new_columns states new_room) a b (Live y) (Hidden x)) view changed_two

  pub Storable-exchanged : Storable old_columns states → Storable new_columns states
  Storable-exchanged all k =
      subst IsStorableIn (sym (get_or-contents k new_columns states))
      (⊎_elim
      (λ (at_i : k ≡ i). subst IsStorableIn (sym (ap (λ n. content_if (slice_get states n) (row_of new_columns n)) at_i ∙ row_a))
      (stored_in old_columns states j state.Hidden y hidden.state_is hidden.row_is all))
      (λ (not_i : k ≢ i).
      ⊎_elim
      (λ (at_j : k ≡ j). subst IsStorableIn (sym (ap (λ n. content_if (slice_get states n) (row_of new_columns n)) at_j ∙ row_b))
      (stored_in old_columns states i state.Live x live.state_is live.row_is all))
      (λ (not_j : k ≢ j). subst IsStorableIn
      (get_or-contents k old_columns states ∙ sym (ap (λ w. content_if (slice_get states k) w) (cells.others k not_i not_j))) (all k))
      (cases_eq k j))
      (cases_eq k i))

-- the content of a reference whose slot's state was read
pub slot_read : (columns : List Column) (states : List State) (room : ℕ) (old : Places) (at : RowRef) (i : ℕ) (s : State)
    → places_of columns states room ≡ old → at.slot ≡ i → i < length states → s ≡ get_or states i s → slot_at old at ≡ content_if (Some s) (row_of columns i)
slot_read columns states room old at i s view place within read =
    sym (ap (λ (p : Places). slot_at p at) view)
    ∙ (get_or-contents at.slot columns states
    ∙ (ap (λ k. content_if (slice_get states k) (row_of columns k)) place
    ∙ ap (λ x. content_if x (row_of columns i)) (slice_get_read states (length states) i s refl within read)))

-- it is not a hidden row if the state is another
pub not_hidden : (s : State) (row other : List Value) → (s ≡ state.Free) ⊎ (s ≡ state.Live) → content_if (Some s) row ≡ Hidden other → ⊥
not_hidden state.Free row other is e = cc
not_hidden state.Live row other is e = cc
not_hidden state.Hidden row other is e =
    ⊎_elim (λ (a : state.Hidden ≡ state.Free). let no : ⊥ = cc in no) (λ (a : state.Hidden ≡ state.Live). let no : ⊥ = cc in no) is

-- the value of a hidden row in a column is the value of its cell
pub hidden_value_at : (columns : List Column) (states : List State) (room : ℕ) (old : Places) (at : RowRef) (row : List Value) (i column : ℕ) (c : Column)
    → places_of columns states room ≡ old → at.slot ≡ i → slot_at old at ≡ Hidden row → column < length columns → c ≡ get_or columns column c
    → slice_get row column ≡ Some (cell c i)
hidden_value_at columns states room old at row i column c view place is within read =
    let stands : Stands columns states i state.Hidden row = hidden_at columns states room old at row i view place is in
    ap (λ r. slice_get r column) (sym stands.row_is)
    ∙ (slice_get-map (λ x. cell x i) columns column ∙ ap (option_map (λ x. cell x i)) (slice_get_read columns (length columns) column c refl within read))

-- a slot with a row
taken_slot : (o : Option State) (row : List Value) → IsTaken (content_if o row) → ((s : State) × (o ≡ Some s)) × (row_in (content_if o row) ≡ row)
taken_slot None row taken = let no : ⊥ = cc in absurd no
taken_slot (Some state.Free) row taken = let no : ⊥ = cc in absurd no
taken_slot (Some state.Live) row taken = ((state.Live, refl), refl)
taken_slot (Some state.Hidden) row taken = ((state.Hidden, refl), refl)

content_read : (columns : List Column) (states : List State) (room : ℕ) (old : Places) (i : ℕ) → places_of columns states room ≡ old
    → content_if (slice_get states i) (row_of columns i) ≡ content_at old i
content_read columns states room old i view = sym (get_or-contents i columns states) ∙ ap (λ (p : Places). content_at p i) view

pub taken_within : (columns : List Column) (states : List State) (room : ℕ) (old : Places) (i : ℕ) → places_of columns states room ≡ old
    → IsTaken (content_at old i) → i < length states
taken_within columns states room old i view taken =
    let found = taken_slot (slice_get states i) (row_of columns i) (subst IsTaken (sym (content_read columns states room old i view)) taken) in
    slice_get_within states i found.0.0 found.0.1

-- the value of its row in a column is the value of its cell
pub taken_cell : (columns : List Column) (states : List State) (room : ℕ) (old : Places) (i column : ℕ) (c : Column) → places_of columns states room ≡ old
    → IsTaken (content_at old i) → column < length columns → c ≡ get_or columns column c → slice_get (row_in (content_at old i)) column ≡ Some (cell c i)
taken_cell columns states room old i column c view taken within read =
    let found = taken_slot (slice_get states i) (row_of columns i) (subst IsTaken (sym (content_read columns states room old i view)) taken) in
    ap (λ x. slice_get (row_in x) column) (sym (content_read columns states room old i view))
    ∙ (ap (λ r. slice_get r column) found.1
    ∙ (slice_get-map (λ x. cell x i) columns column ∙ ap (option_map (λ x. cell x i)) (slice_get_read columns (length columns) column c refl within read)))

-- a hidden row has the types of the columns
pub hidden_typed : (columns : List Column) (states : List State) (room : ℕ) (old : Places) (at : RowRef) (row : List Value)
    → places_of columns states room ≡ old → slot_at old at ≡ Hidden row → HasTypes old.types row
hidden_typed columns states room old at row view is =
    let stands : Stands columns states at.slot state.Hidden row = hidden_at columns states room old at row at.slot view refl is in
    subst (HasTypes old.types) stands.row_is
    (subst (λ (p : Places). HasTypes p.types (row_of columns at.slot)) view (row_of-typed columns at.slot))
