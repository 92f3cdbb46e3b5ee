-- Staged rows do not change a case, and an edit of one of them fits its table.
use Rattle.std.proofs.Common.{◌≡◌, ℕ, ◌<◌, true, List, [], ◌∷◌, length, refl, sym, ap, subst, ◌∙◌, arith}
use Rattle.std.specs.List.{All}
use Rattle.std.proofs.lemmas.List.Elements.{All-cons, All-nil}
use Rattle.mm_delta.specs.Edited.{before_at}
use Rattle.mm_indexed.specs.Kept.{StoredRows}
use Rattle.mm_indexed.specs.RowLists.{rows_of}
use Rattle.mm_partition.specs.Places.{Hidden, row_in, slot_at}
use Rattle.mm_partition.specs.Types.{HasTypes}
use Rattle.mm_row_order.specs.Refs.{Slots, row_at}
use Rattle.mm_standing.specs.State.{Lists}
use Rattle.mm_schema.specs.Rows.{column_cmp, same_in_column}
use Rattle.mm_schema.proofs.Orderings.{equal_from_is_eq}
use Rattle.mm_store.specs.Edits.{AreFit, rows_come}
use Rattle.mm_store.specs.Staging.{HasStaged, IsStaged, KeepsSlots}
use Rattle.mm_store.specs.Tables.{HasRows, IsAt, Tables, Turns}
use Rattle.mm_store.proofs.Joining.{one_relation}
use Rattle.mm_store.proofs.Staging.{staged_at}
use Rattle.mm_tables.specs.Edits.{Fits}
use Rattle.mm_tables.specs.declared.edit.Edit.{Edit}
use Rattle.mm_tables.specs.declared.edit.Edit.TheVariants.{Delete, Insert, Move, Update}
use Rattle.mm_tables.proofs.Slots.{put_here}
use Rattle.mm_value.specs.declared.row_ref.RowRef.{RowRef}
use Rattle.mm_value.specs.declared.values.Value.{Value}
use Rattle.store_tests.specs.RowEdits.{IsLiveAt}
use Rattle.store_tests.specs.SampleStore.{ArePlain, plain_types}
use Rattle.store_tests.proofs.PlainStores.{at_place, plain_at}
use Rattle.store_tests.proofs.StagedRows.{plain_staged, size_staged}
use Rattle.standing_tests.specs.Cases.{AreFitAt, IsCase, IsHiddenNumber, IsMark, IsMarked}
use Rattle.standing_tests.proofs.CaseSteps.{case_still, mark_still}
use Rattle.standing_tests.proofs.TableRows.{rows_kept}

module _ (table : ℕ) (old new : Tables) (within : table < length old.tables) (staged : HasStaged table old new) where
  kept : (stored : StoredRows) → IsAt old table stored → (x : StoredRows) × Turns old table x new × HasRows stored (rows_of stored) x
  kept stored at =
      let is = staged.kept stored at in
      let rows : HasRows stored (rows_of stored) is.0 =
      record { rows_are = is.2.rows_are; types = is.2.types; key = is.2.key; indexes = is.2.indexes } in
      (is.0, is.1, rows)

  pub rows_staged : before_at new ≡ before_at old
  rows_staged = rows_kept old new table within kept

  -- A case is still one, ..
  pub case_staged : (lists : Lists) → IsCase old lists → IsCase new lists
  case_staged lists was =
      case_still old new lists lists refl was (size_staged table old new within staged) (plain_staged table old new within staged was.plain)
      (before_at old) rows_staged was.typed was.fits was.ready

  -- .. and so is a mark.
  pub mark_staged : (lists : Lists) (commands changes : ℕ) → IsMark old lists commands changes → IsMark new lists commands changes
  mark_staged lists commands changes was =
      mark_still old new lists lists refl commands changes (staged.marks commands was.commands_there.within) was.changes_there (λ list row. refl) was

  -- So it is with both marks of a case.
  pub marked_staged : (lists : Lists) (commands changes : ℕ) → IsMarked old lists commands changes → IsMarked new lists commands changes
  marked_staged lists commands changes marked = record {
    case = case_staged lists marked.case;
    start = mark_staged lists 0 0 marked.start;
    mark = mark_staged lists commands changes marked.mark;
  }

  -- Each new table was a table before.
  was : (now : StoredRows) → IsAt new table now → (stored : StoredRows) × IsAt old table stored × KeepsSlots stored now
  was now here =
      let there = at_place old table within in
      let is = staged.kept there.0 there.1 in (
        there.0,
        there.1,
        subst (KeepsSlots there.0) (one_relation is.0 now (sym (staged_at table old new staged there.0 there.1) ∙ here)) is.2,
      )

  -- A staged row is hidden.
  pub hidden_staged : (at : RowRef) (row : List Value)
      → ((stored now : StoredRows) → IsAt old table stored → IsAt new table now → IsStaged at row stored now) → HasTypes plain_types row
      → IsHiddenNumber new table at
  hidden_staged at row each typed now here =
      let before = was now here in (
        row,
        ap (λ (s : Slots). s at) (each before.0 now before.1 here).slots ∙ put_here at at (Hidden row) (slot_at before.0.places) refl,
        typed,
      )

-- ---- edits of one row

one_fit : (stored : StoredRows) (edit : Edit) → Fits stored.key (slot_at stored.places) edit
    → All (HasTypes stored.places.types) (rows_come (slot_at stored.places) (edit ∷ [])) → AreFit stored (edit ∷ [])
one_fit stored edit fits typed = record {
  ready = record {
    fits = All-cons (Fits stored.key (slot_at stored.places)) edit [] fits (All-nil (Fits stored.key (slot_at stored.places)));
    apart = λ i j d before within. absurd (omega arith);
  };
  typed = typed;
}

-- A row in use may be deleted.
pub deletion_fit : (store : Tables) (table : ℕ) (at : RowRef) → IsLiveAt store table at
    → AreFitAt store table (Delete at ∷ [])
deletion_fit store table at live stored here = one_fit stored (Delete at) (live stored here) (All-nil (HasTypes stored.places.types))

module _ (store : Tables) (table : ℕ) (plain : ArePlain store) (other : RowRef) (hidden : IsHiddenNumber store table other) where
  row_typed : (stored : StoredRows) → IsAt store table stored → All (HasTypes stored.places.types) (row_at (slot_at stored.places) other ∷ [])
  row_typed stored here =
      let is = hidden stored here in
      let types = (plain_at store table plain stored here).types in
      All-cons (HasTypes stored.places.types) (row_at (slot_at stored.places) other) []
      (subst (HasTypes stored.places.types) (sym (ap row_in is.1)) (is.2 ∙ sym types)) (All-nil (HasTypes stored.places.types))

  -- A hidden row of integers may be inserted, ..
  pub insertion_fit : AreFitAt store table (Insert other ∷ [])
  insertion_fit stored here =
      let is = hidden stored here in one_fit stored (Insert other) (is.0, is.1) (row_typed stored here)

  module _ (at : RowRef) (live : IsLiveAt store table at) where
    -- .. or replace a row in use, ..
    pub move_fit : AreFitAt store table (Move at other ∷ [])
    move_fit stored here =
        let is = hidden stored here in one_fit stored (Move at other) (live stored here, (is.0, is.1)) (row_typed stored here)

    -- .. also one with the same key.
    pub update_fit : ((stored : StoredRows) → IsAt store table stored
        → same_in_column stored.key (row_at (slot_at stored.places) at) (row_at (slot_at stored.places) other) ≡ true)
        → AreFitAt store table (Update at other ∷ [])
    update_fit keeps stored here =
        let is = hidden stored here in
        let now : Slots = slot_at stored.places in
        one_fit stored (Update at other)
        (live stored here, (is.0, is.1), equal_from_is_eq (column_cmp stored.key (row_at now at) (row_at now other)) (keeps stored here))
        (row_typed stored here)
