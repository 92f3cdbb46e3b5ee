-- Staged rows, and the edits that bring them into use.
use Rattle.std.proofs.Common.{◌≡◌, ◌≢◌, ℕ, ◌+◌, ◌*◌, ◌<◌, ◌≤◌, true, List, [], ◌∷◌, Some, None, get_or, length, refl, sym, ap, ◌∙◌, subst, arith}
use Rattle.std.proofs.lemmas.List.Elements.{All-cons, All-nil}
use Rattle.mm_indexed.specs.Kept.{StoredRows}
use Rattle.mm_partition.specs.Places.{Free, Hidden, IsHidden, holds_row, slot_at}
use Rattle.mm_row_order.specs.Refs.{Slots, row_at}
use Rattle.mm_schema.specs.Rows.{column_cmp, same_in_column}
use Rattle.mm_schema.proofs.Orderings.{equal_from_is_eq}
use Rattle.mm_store.specs.Edits.{new_slot, old_slot}
use Rattle.mm_store.specs.Marks.{IsMark}
use Rattle.mm_store.specs.Staging.{CanStage, HasStaged, IsStaged, KeepsSlots}
use Rattle.mm_store.specs.Tables.{IsAt, Tables}
use Rattle.mm_store.proofs.Joining.{one_relation}
use Rattle.mm_store.proofs.Staging.{NamesNone, ready_push, staged_at}
use Rattle.mm_tables.specs.Edits.{Fits, put}
use Rattle.mm_tables.specs.declared.edit.Edit.{Edit}
use Rattle.mm_tables.specs.declared.edit.Edit.TheVariants.{Insert, Move, Update}
use Rattle.mm_tables.proofs.Room.{HasRoom-fewer}
use Rattle.mm_tables.proofs.Slots.{put_here}
use Rattle.mm_value.specs.declared.row_ref.RowRef.{RowRef}
use Rattle.mm_value.specs.declared.values.Value.{Value}
use Rattle.store_tests.specs.RowEdits.{AreReadyAt, Brings, IsLiveAt, LeaveRow}
use Rattle.store_tests.specs.SampleStore.{ArePlain}
use Rattle.store_tests.proofs.PlainStores.{as_many, at_place, plain_at, still_plain}

-- Capacity for some rows is capacity for fewer.
pub fewer_rows : (rows fewer table : ℕ) (store : Tables) → fewer ≤ rows → CanStage rows table store → CanStage fewer table store
fewer_rows rows fewer table store few can = record {
  capacity = λ d.
      HasRoom-fewer rows (2 * 0) (2 * 0) fewer (2 * 0) (2 * 0) (get_or store.stored.tables table d) few (omega arith) (omega arith) (can.capacity d);
  log_room = omega (arith, few, can.log_room);
  entries = λ i d within.
      let had = can.entries i d within in
      record { as_source = λ is. omega (arith, had.as_source is, few); as_target = λ is. omega (arith, had.as_target is, few) };
}

-- ---- edits

-- An empty list of edits may be made.
pub none_ready : (store : Tables) (table : ℕ) → AreReadyAt store table []
none_ready store table stored at = record {
  fits = All-nil (Fits stored.key (slot_at stored.places));
  apart = λ i j d before within. absurd (omega arith);
}

-- An edit that replaces no row has no old row that others would have to leave.
pub none_replaced : (e : Edit) (es : List Edit) → old_slot e ≡ None → (at : RowRef) → old_slot e ≡ Some at → LeaveRow es at
none_replaced e es none at is = let both : None ≡ Some at = sym none ∙ is in absurd (let no : ⊥ = cc in no)

-- The edit of a staged row may be made ..
pub first_ready : (table : ℕ) (old new : Tables) (e : Edit) → Brings table e old new → AreReadyAt new table (e ∷ [])
first_ready table old new e more = more.ready [] (none_ready old table) (λ at is. All-nil (λ (f : Edit). old_slot f ≢ Some at))

-- .. and those of two may be, if they replace different rows.
pub both_ready : (table : ℕ) (old mid new : Tables) (e f : Edit) (a b : RowRef) → Brings table e old mid → Brings table f mid new
    → old_slot e ≡ Some a → old_slot f ≡ Some b → a ≢ b → AreReadyAt new table (e ∷ f ∷ [])
both_ready table old mid new e f a b first second of_first of_second differ =
    second.ready (e ∷ []) (first_ready table old mid e first)
    (λ at is.
    All-cons (λ (g : Edit). old_slot g ≢ Some at) e []
    (λ (same : old_slot e ≡ Some at).
    differ (let one : a ≡ b = let both : Some a ≡ Some b = sym of_first ∙ (same ∙ (sym is ∙ of_second)) in cc in one))
    (All-nil (λ (g : Edit). old_slot g ≢ Some at)))

names_none : (es : List Edit) (r : RowRef) → LeaveRow es r → NamesNone es r
names_none es r leave k d within at is same = leave k d within (is ∙ ap (λ (a : RowRef). Some a) same)

-- ---- rows of a table were staged

module _ (table : ℕ) (old new : Tables) (within : table < length old.tables) (staged : HasStaged table old new) where
  -- each new table was a table before
  was : (now : StoredRows) → IsAt new table now → (stored : StoredRows) × IsAt old table stored × KeepsSlots stored now
  was now here =
      let there = at_place old table within in
      let is = staged.kept there.0 there.1 in (
        there.0,
        there.1,
        subst (KeepsSlots there.0) (one_relation is.0 now (sym (staged_at table old new staged there.0 there.1) ∙ here)) is.2,
      )

  -- there are as many tables, and they are plain
  pub size_staged : length new.tables ≡ length old.tables
  size_staged =
      let there = at_place old table within in
      as_many old new table (staged.kept there.0 there.1).0 (staged.kept there.0 there.1).1

  pub still_there : table < length new.tables
  still_there = omega (arith, within, size_staged)

  pub plain_staged : ArePlain old → ArePlain new
  plain_staged plain =
      let there = at_place old table within in
      let is = staged.kept there.0 there.1 in
      still_plain old new table is.0 plain is.1 (record { types = is.2.types ∙ (plain_at old table plain there.0 there.1).types })

  -- a log that could be undone can be undone
  pub mark_staged : (mark : ℕ) → IsMark old mark → IsMark new mark
  mark_staged mark is = (staged.marks mark is.within).kept is

  -- a row in use stays in use
  pub live_staged : (at : RowRef) → IsLiveAt old table at → IsLiveAt new table at
  live_staged at live now here =
      let before = was now here in
      let row = live before.0 before.1 in
      (row.0, before.2.taken at (ap holds_row row.1) ∙ row.1)

  -- an edit brings the staged row into use
  pub brings : (e : Edit) → ((now : StoredRows) → IsAt new table now → Fits now.key (slot_at now.places) e)
      → ((at : RowRef) → new_slot e ≡ Some at → (stored : StoredRows) → IsAt old table stored → slot_at stored.places at ≡ Free)
      → ((at : RowRef) → old_slot e ≡ Some at → IsLiveAt old table at) → ((rows : ℕ) → CanStage (rows + 1) table old → CanStage rows table new)
      → Brings table e old new
  brings e fits fresh live room = record {
    staged = staged;
    room = room;
    ready = λ edits ready leave now here.
        let before = was now here in
        ready_push before.0 now edits e before.2 (ready before.0 before.1) (fits now here) (λ at is. fresh at is before.0 before.1)
        (λ at is. live at is before.0 before.1)
        (λ at is. names_none edits at (leave at is));
  }

  -- one row was staged
  module _ (other : RowRef) (row : List Value)
      (each : (stored now : StoredRows) → IsAt old table stored → IsAt new table now → IsStaged other row stored now)
      (room : (rows : ℕ) → CanStage (rows + 1) table old → CanStage rows table new) where
    fresh : (at : RowRef) → Some other ≡ Some at → (stored : StoredRows) → IsAt old table stored → slot_at stored.places at ≡ Free
    fresh at is stored there =
        let same : other ≡ at = cc in
        subst (λ (r : RowRef). slot_at stored.places r ≡ Free) same
        (each stored (staged.kept stored there).0 there (staged_at table old new staged stored there)).fresh

    pub hidden_staged : (now : StoredRows) → IsAt new table now → IsHidden now.places other
    hidden_staged now here =
        let before = was now here in (
          row,
          ap (λ (s : Slots). s other) (each before.0 now before.1 here).slots ∙ put_here other other (Hidden row) (slot_at before.0.places) refl,
        )

    pub insertion_brings : Brings table (Insert other) old new
    insertion_brings = brings (Insert other) hidden_staged fresh (λ at is. absurd (let none : ⊥ = cc in none)) room

    module _ (at : RowRef) (live : IsLiveAt old table at) where
      still : (r : RowRef) → Some at ≡ Some r → IsLiveAt old table r
      still r is = let same : at ≡ r = cc in subst (IsLiveAt old table) same live

      pub move_brings : Brings table (Move at other) old new
      move_brings = brings (Move at other) (λ now here. (live_staged at live now here, hidden_staged now here)) fresh still room

      -- the row keeps its key
      pub update_brings : ((now : StoredRows) → IsAt new table now
          → same_in_column now.key (row_at (slot_at now.places) at) (row_at (slot_at now.places) other) ≡ true) → Brings table (Update at other) old new
      update_brings keeps =
          brings (Update at other)
          (λ now here. (
            live_staged at live now here,
            hidden_staged now here,
            equal_from_is_eq (column_cmp now.key (row_at (slot_at now.places) at) (row_at (slot_at now.places) other)) (keeps now here),
          ))
          fresh still room
