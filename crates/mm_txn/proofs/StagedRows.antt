-- Rows that are staged one after another, and the edits that bring them into use.
use Rattle.std.proofs.Common.{◌≡◌, ◌≢◌, ℕ, zero, suc, ◌+◌, ◌*◌, ◌<◌, ◌≤◌, true, List, [], ◌∷◌, ◌++◌, Option, Some, None, drop, length, get_or, map, slice_get}
use Rattle.std.proofs.Common.{take, refl, sym, ap}
use Rattle.std.proofs.Common.{ap₂, ◌∙◌, subst, arith}
use Rattle.std.specs.Prelude.{slice_set}
use Rattle.std.specs.List.{All, AllPairs, filter_map}
use Rattle.std.specs.Option.{option_map}
use Rattle.std.proofs.Math.Seq.{split_at}
use Rattle.std.proofs.lemmas.List.{map-append}
use Rattle.std.proofs.lemmas.List.Elements.{All-cons, All-head, All-nil, All-push, All-tail, filter_map-append}
use Rattle.std.proofs.lemmas.Option.{slice_get_within}
use Rattle.mm_indexed.specs.Kept.{StoredRows}
use Rattle.mm_indexed.specs.RowLists.{rows_of}
use Rattle.mm_link.specs.Targets.{pair_of}
use Rattle.mm_order.proofs.Pairs.{AllPairs-append_across}
use Rattle.mm_partition.specs.Places.{Content, Free, Hidden, IsLive, holds_row, row_in, slot_at}
use Rattle.mm_partition.specs.Types.{HasTypes}
use Rattle.mm_plan.specs.Kept.{instance_of}
use Rattle.mm_row_order.specs.Refs.{Slots, row_at}
use Rattle.mm_schema.specs.Instance.{Instance}
use Rattle.mm_schema.specs.Rows.{Pair, additions, same_in_column}
use Rattle.mm_schema.proofs.Orderings.{equal_from_is_eq}
use Rattle.mm_store.specs.Edits.{AreFit, old_slot, pairs_of, rows_come}
use Rattle.mm_store.specs.Marks.{KeepsMarks, mark_of, rows_at_mark}
use Rattle.mm_store.specs.Staging.{CanStage, HasStaged, IsStaged, KeepsSlots}
use Rattle.mm_store.specs.Tables.{IsAt, SameForm, Tables, Turns}
use Rattle.mm_store.proofs.Forms.{forms_same, forms_turned, forms_twice}
use Rattle.mm_store.proofs.Joining.{one_relation, some_at}
use Rattle.mm_store.proofs.MarkLaws.{KeepsMarks-same, KeepsMarks-then, marks_then}
use Rattle.mm_store.proofs.Staging.{HasStaged-both, NamesNone, pairs_kept, ready_push, staged_at}
use Rattle.mm_indexed.specs.Index.{EachTurns}
use Rattle.mm_indexed.specs.Twins.{keys_by}
use Rattle.mm_tables.specs.Edits.{Fits}
use Rattle.mm_tables.specs.declared.edit.Edit.{Edit}
use Rattle.mm_tables.specs.declared.edit.Edit.TheVariants.{Insert, Move, Update}
use Rattle.mm_tables.proofs.Room.{HasRoom-fewer}
use Rattle.mm_tables.proofs.Slots.{put_here}
use Rattle.mm_value.specs.declared.row_ref.RowRef.{RowRef}
use Rattle.mm_value.specs.declared.values.Value.{Value}
use Rattle.mm_txn.specs.Kept.{KeepsState}
use Rattle.mm_txn.specs.RowEdits.{Brings, Stages}

-- ---- one table

-- Capacity for some rows is also capacity for fewer.
pub CanStage-fewer : (n k table : ℕ) (store : Tables) → k ≤ n → CanStage n table store → CanStage k table store
CanStage-fewer n k table store fewer can = record {
  capacity = λ d.
      HasRoom-fewer n (2 * 0) (2 * 0) k (2 * 0) (2 * 0) (get_or store.stored.tables table d) fewer (omega arith) (omega arith) (can.capacity d);
  log_room = omega (arith, fewer, can.log_room);
  entries = λ i d within.
      let had = can.entries i d within in
      record { as_source = λ is. omega (arith, had.as_source is, fewer); as_target = λ is. omega (arith, had.as_target is, fewer) };
}

-- The new table keeps the slots of the old one.
pub one_from : (table : ℕ) (old new : Tables) (staged : HasStaged table old new) (stored : StoredRows) → IsAt old table stored → (now : StoredRows)
    → IsAt new table now → KeepsSlots stored now
one_from table old new staged stored was now at =
    let is = staged.kept stored was in
    subst (KeepsSlots stored) (one_relation is.0 now (sym (staged_at table old new staged stored was) ∙ at)) is.2

-- Each new table was a table before.
pub staged_from : (table : ℕ) (old new : Tables) → HasStaged table old new → table < length old.tables → (now : StoredRows) → IsAt new table now
    → (stored : StoredRows) × IsAt old table stored × KeepsSlots stored now
staged_from table old new staged within now at =
    let was = some_at old.tables table within in (was.0, was.1, one_from table old new staged was.0 was.1 now at)

pub staged_within : (table : ℕ) (old new : Tables) → HasStaged table old new → table < length old.tables → table < length new.tables
staged_within table old new staged within =
    let was = some_at old.tables table within in
    slice_get_within new.tables table (staged.kept was.0 was.1).0 (staged_at table old new staged was.0 was.1)

-- A row in use stays in its slot.
pub row_kept : (old new : StoredRows) → KeepsSlots old new → (at : RowRef) → IsLive old.places at → slot_at new.places at ≡ slot_at old.places at
row_kept old new kept at live = kept.taken at (ap holds_row live.1)

pub live_kept : (old new : StoredRows) → KeepsSlots old new → (at : RowRef) → IsLive old.places at → IsLive new.places at
live_kept old new kept at live = (live.0, row_kept old new kept at live ∙ live.1)

pub staged_hidden : (at : RowRef) (row : List Value) (old new : StoredRows) → IsStaged at row old new → slot_at new.places at ≡ Hidden row
staged_hidden at row old new staged =
    ap (λ (now : Slots). now at) staged.slots ∙ put_here at at (Hidden row) (slot_at old.places) refl

staged_fresh : (at : RowRef) (row : List Value) (old new : StoredRows) → IsStaged at row old new → (other : RowRef) → Some at ≡ Some other
    → slot_at old.places other ≡ Free
staged_fresh at row old new staged other is = let same : at ≡ other = cc in subst (λ (r : RowRef). slot_at old.places r ≡ Free) same staged.fresh

-- ---- edits

-- A staged row is inserted.
pub brings_insert : (at : RowRef) (row : List Value) (old new : StoredRows) → IsStaged at row old new → Brings old new None row (Insert at)
brings_insert at row old new staged =
    let hidden = staged_hidden at row old new staged in
    record {
      fits = (row, hidden);
      fresh = staged_fresh at row old new staged;
      takes = refl;
      pair = ap {B = Pair} (λ (c : Content). (None, Some (row_in c))) hidden;
    }

-- A staged row replaces a row in use, ..
module _ (at other : RowRef) (row : List Value) (old new : StoredRows) (kept : KeepsSlots old new) (live : IsLive old.places at)
    (staged : IsStaged other row old new) where
  pair_swapped : ◌≡◌ {A = Pair} (Some (row_at (slot_at new.places) at), Some (row_at (slot_at new.places) other))
      (Some (row_at (slot_at old.places) at), Some row)
  pair_swapped =
      ap₂ {C = Pair} (λ (c d : Content). (Some (row_in c), Some (row_in d))) (row_kept old new kept at live) (staged_hidden other row old new staged)

  pub brings_move : Brings old new (Some at) row (Move at other)
  brings_move = record {
    fits = (live_kept old new kept at live, (row, staged_hidden other row old new staged));
    fresh = staged_fresh other row old new staged;
    takes = refl;
    pair = pair_swapped;
  }

  -- .. and if it has the same key, the entry of the key stays.
  pub brings_update : same_in_column new.key (row_at (slot_at new.places) at) (row_at (slot_at new.places) other) ≡ true
      → Brings old new (Some at) row (Update at other)
  brings_update same = record {
    fits = (
      live_kept old new kept at live,
      (row, staged_hidden other row old new staged),
      equal_from_is_eq (keys_by new.key (slot_at new.places) at other) same,
    );
    fresh = staged_fresh other row old new staged;
    takes = refl;
    pair = pair_swapped;
  }

pub Stages-none : (table : ℕ) (old new : Tables) (edits : List Edit) → edits ≡ [] → HasStaged table old new → Stages table old new edits []
Stages-none table old new edits none staged = record {
  kept = staged;
  fit = λ stored at. subst (AreFit stored) (sym none) (record {
    ready = record {
      fits = All-nil (Fits stored.key (slot_at stored.places));
      apart = λ i j d before within. absurd (omega (arith, before, within));
    };
    typed = All-nil (HasTypes stored.places.types);
  });
  pairs_are = λ stored at. ap (pairs_of (slot_at stored.places)) none;
}

module _ (table : ℕ) (start old new : Tables) (edits : List Edit) (pairs : List Pair) (made : Stages table start old edits pairs)
    (staged : HasStaged table old new) (within : table < length old.tables) (at : Option RowRef) (row : List Value) (edit : Edit)
    (brings : (stored now : StoredRows) → IsAt old table stored → IsAt new table now → Brings stored now at row edit)
    (typed : (stored : StoredRows) → IsAt old table stored → HasTypes stored.places.types row)
    (had : (r : RowRef) → at ≡ Some r → (stored : StoredRows) → IsAt old table stored → IsLive stored.places r)
    (out : (r : RowRef) → at ≡ Some r → NamesNone edits r) (before : Option (List Value))
    (was : (stored : StoredRows) → IsAt old table stored → option_map (row_at (slot_at stored.places)) at ≡ before) where
  abbrev more_pairs : List Pair
  more_pairs = pairs ++ (before, Some row) ∷ []

  module _ (stored now : StoredRows) (there : IsAt old table stored) (here : IsAt new table now) (kept : KeepsSlots stored now) where
    pairs_more : pairs_of (slot_at now.places) (edits ++ edit ∷ []) ≡ more_pairs
    pairs_more =
        map-append (pair_of (slot_at now.places)) edits (edit ∷ [])
        ∙ ap₂ (λ (ps : List Pair) (p : Pair). ps ++ p ∷ [])
        (pairs_kept stored now edits kept (made.fit stored there).ready ∙ made.pairs_are stored there)
        ((brings stored now there here).pair ∙ ap {B = Pair} (λ (o : Option (List Value)). (o, Some row)) (was stored there))

    abbrev IsTyped : List Value → Type 0
    IsTyped = HasTypes stored.places.types

    come_typed : All IsTyped (filter_map (λ (p : Pair). p.1) more_pairs)
    come_typed =
        subst (All IsTyped) (sym (filter_map-append (λ (p : Pair). p.1) pairs ((before, Some row) ∷ [])))
        (All-push IsTyped (filter_map (λ (p : Pair). p.1) pairs) row
        (subst (λ (ps : List Pair). All IsTyped (filter_map (λ (p : Pair). p.1) ps)) (made.pairs_are stored there) (made.fit stored there).typed)
        (typed stored there))

    fit_more : AreFit now (edits ++ edit ∷ [])
    fit_more =
        let more = brings stored now there here in
        record {
          ready = ready_push stored now edits edit kept (made.fit stored there).ready more.fits more.fresh
              (λ r is. had r (sym more.takes ∙ is) stored there) (λ r is. out r (sym more.takes ∙ is));
          typed = subst (λ types. All (HasTypes types) (rows_come (slot_at now.places) (edits ++ edit ∷ []))) (sym kept.types)
              (subst (λ (ps : List Pair). All IsTyped (filter_map (λ (p : Pair). p.1) ps)) (sym pairs_more) come_typed);
        }

  -- One more row is staged, and there is one more edit.
  pub Stages-more : Stages table start new (edits ++ edit ∷ []) more_pairs
  Stages-more = record {
    kept = HasStaged-both table start old new made.kept staged;
    fit = λ now here. let from = staged_from table old new staged within now here in fit_more from.0 now from.1 here from.2;
    pairs_are = λ now here. let from = staged_from table old new staged within now here in pairs_more from.0 now from.1 here from.2;
  }

-- One more row is inserted, ..
pub Stages-added : (table : ℕ) (start old new : Tables) (edits : List Edit) (done : List (List Value)) → Stages table start old edits (additions done)
    → HasStaged table old new → table < length old.tables → (row : List Value) (edit : Edit)
    → ((stored now : StoredRows) → IsAt old table stored → IsAt new table now → Brings stored now None row edit)
    → ((stored : StoredRows) → IsAt old table stored → HasTypes stored.places.types row)
    → Stages table start new (edits ++ edit ∷ []) (additions (done ++ row ∷ []))
Stages-added table start old new edits done made staged within row edit brings typed =
    subst (Stages table start new (edits ++ edit ∷ [])) (sym (map-append (λ (r : List Value). (None, Some r)) done (row ∷ [])))
    (Stages-more table start old new edits (additions done) made staged within None row edit brings typed
    (λ r is. absurd (let no : ⊥ = cc in no)) (λ r is. absurd (let no : ⊥ = cc in no)) None (λ stored at. refl))

-- .. or replaces the row of one more reference.
pub Stages-swapped : (table : ℕ) (start old new : Tables) (edits : List Edit) (pairs : List Pair) → Stages table start old edits pairs
    → HasStaged table old new → table < length old.tables → (at : RowRef) (row : List Value) (edit : Edit)
    → ((stored now : StoredRows) → IsAt old table stored → IsAt new table now → Brings stored now (Some at) row edit)
    → ((stored : StoredRows) → IsAt old table stored → HasTypes stored.places.types row)
    → ((stored : StoredRows) → IsAt old table stored → IsLive stored.places at) → NamesNone edits at → (before : List Value)
    → ((stored : StoredRows) → IsAt old table stored → row_at (slot_at stored.places) at ≡ before)
    → Stages table start new (edits ++ edit ∷ []) (pairs ++ (Some before, Some row) ∷ [])
Stages-swapped table start old new edits pairs made staged within at row edit brings typed live out before was =
    Stages-more table start old new edits pairs made staged within (Some at) row edit brings typed
    (λ r is stored there. let same : at ≡ r = cc in subst (IsLive stored.places) same (live stored there))
    (λ r is. let same : at ≡ r = cc in subst (NamesNone edits) same out) (Some before)
    (λ stored there. ap (λ (values : List Value). Some values) (was stored there))

-- Edits of the rows of references name no other row.
pub names_none : (edits : List Edit) (refs : List RowRef) (r : RowRef) → map old_slot edits ≡ map Some refs → All (λ a. a ≢ r) refs → NamesNone edits r
names_none [] refs r names apart = All-nil (λ (e : Edit). (at : RowRef) → old_slot e ≡ Some at → at ≢ r)
names_none (e ∷ es) [] r names apart = absurd (let no : ⊥ = cc in no)
names_none (e ∷ es) (a ∷ refs) r names apart =
    let first : old_slot e ≡ Some a = cc in
    let rest : map old_slot es ≡ map Some refs = cc in
    All-cons (λ (f : Edit). (at : RowRef) → old_slot f ≡ Some at → at ≢ r) e es
    (λ at is same. All-head (λ (b : RowRef). b ≢ r) a refs apart (let one : a ≡ at = let both : Some a ≡ Some at = sym first ∙ is in cc in one ∙ same))
    (names_none es refs r rest (All-tail (λ (b : RowRef). b ≢ r) a refs apart))

-- Each of distinct references differs from those before it.
pub apart_in_front : (refs : List RowRef) (i : ℕ) (none : RowRef) → AllPairs (λ a b. a ≢ b) refs → i < length refs
    → All (λ a. a ≢ get_or refs i none) (take i refs)
apart_in_front refs i none apart within k d below =
    All-head (λ (b : RowRef). get_or (take i refs) k d ≢ b) (get_or refs i none) (drop (suc i) refs)
    (AllPairs-append_across (λ (a b : RowRef). a ≢ b) (take i refs) (get_or refs i none ∷ drop (suc i) refs)
    (subst (AllPairs (λ a b. a ≢ b)) (split_at refs i none within) apart) k d below)

-- ---- all tables

rows_set : (tables : List StoredRows) (place : ℕ) (was is : StoredRows) → slice_get tables place ≡ Some was → rows_of is ≡ rows_of was
    → instance_of (slice_set tables place is) ≡ instance_of tables
rows_set [] place was is at same = refl
rows_set (t ∷ ts) zero was is at same = ap (λ (rows : List (List Value)). rows ∷ instance_of ts) (same ∙ ap rows_of (one_relation was t (sym at)))
rows_set (t ∷ ts) (suc place) was is at same = ap (λ (rest : Instance). rows_of t ∷ rest) (rows_set ts place was is at same)

pub KeepsState-none : (store : Tables) → KeepsState store store
KeepsState-none store = record {
  rows = refl;
  form = forms_same store.tables;
  links = refl;
  longer = omega arith;
  marks = λ mark within. KeepsMarks-same store mark;
}

pub KeepsState-staged : (table : ℕ) (old new : Tables) → table < length old.tables → HasStaged table old new → KeepsState old new
KeepsState-staged table old new within staged =
    let was = some_at old.tables table within in
    let is = staged.kept was.0 was.1 in
    record {
      rows = ap instance_of is.1 ∙ rows_set old.tables table was.0 is.0 was.1 is.2.rows_are;
      form = forms_turned old new table was.0 is.0 was.1 is.1 (record { types = is.2.types; key = is.2.key; indexes = is.2.indexes });
      links = staged.links;
      longer = staged.longer;
      marks = staged.marks;
    }

pub KeepsState-both : (a b c : Tables) → KeepsState a b → KeepsState b c → KeepsState a c
KeepsState-both a b c first second = record {
  rows = second.rows ∙ first.rows;
  form = forms_twice a.tables b.tables c.tables first.form second.form;
  links = second.links ∙ first.links;
  longer = omega (arith, first.longer, second.longer);
  marks = marks_then a b c first.longer first.marks second.marks;
}

-- The changes since then are undone.
pub KeepsState-undone : (old mid new : Tables) → KeepsState old mid → (mark : ℕ) → mark ≡ mark_of old → rows_at_mark mark old ≡ instance_of old.tables
    → instance_of new.tables ≡ rows_at_mark mark mid → mark_of new ≡ mark → ((earlier : ℕ) → earlier ≤ mark → KeepsMarks mid new earlier)
    → new.links ≡ mid.links → EachTurns SameForm mid.tables new.tables → KeepsState old new
KeepsState-undone old mid new kept mark is now rows reached back links form = record {
  rows = rows ∙ ((kept.marks mark (omega (arith, is))).rows ∙ now);
  form = forms_twice old.tables mid.tables new.tables kept.form form;
  links = links ∙ kept.links;
  longer = omega (arith, reached, is);
  marks = λ earlier within. KeepsMarks-then old mid new earlier (kept.marks earlier within) (back earlier (omega (arith, within, is)));
}
