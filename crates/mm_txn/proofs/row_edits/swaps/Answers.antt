use Rattle.std.proofs.Common.{◌≡◌, ◌+◌, ◌-◌, ◌<◌, ◌++◌, ◌∷◌, [], ℕ, List, Option, Some, false, inl, inr, get_or, length, map, take, sym, ap}
use Rattle.std.proofs.Common.{ap₂, ◌∙◌, subst, arith}
use Rattle.std.proofs.Math.Seq.{split_at}
use Rattle.std.specs.List.{All, list_any}
use Rattle.std.proofs.lemmas.List.{length-map, map-append, take_all, take_more}
use Rattle.std.proofs.lemmas.List.Elements.{All-get_or}
use Rattle.std.proofs.lemmas.List.{get_or-map}
use Rattle.std.proofs.lemmas.Result.{err_from_is_err_and}
use Rattle.mm_indexed.specs.Kept.{StoredRows}
use Rattle.mm_partition.specs.Places.{IsLive, slot_at, row_in}
use Rattle.mm_partition.specs.Types.{HasTypes}
use Rattle.mm_query.specs.Atoms.{is_past_range, updated_row}
use Rattle.mm_query.specs.Binding.{AssignmentsWithin}
use Rattle.mm_query.specs.declared.atom.Assignment.{Assignment}
use Rattle.mm_row_order.specs.Refs.{row_at}
use Rattle.mm_schema.specs.Rows.{Pair}
use Rattle.mm_store.proofs.Staging.{HasStaged-both, HasStaged-none, staged_at}
use Rattle.mm_store.specs.Edits.{old_slot}
use Rattle.mm_store.specs.Staging.{CanStage, HasStaged, KeepsSlots}
use Rattle.mm_store.specs.Tables.{IsAt, Tables}
use Rattle.mm_store.proofs.Joining.{some_at}
use Rattle.mm_tables.specs.declared.edit.Edit.{Edit}
use Rattle.mm_value.specs.declared.col_type.ColType.{ColType}
use Rattle.mm_value.specs.declared.row_ref.RowRef.{RowRef}
use Rattle.mm_value.specs.declared.values.Value.{Value}
use Rattle.mm_txn.specs.RowEdits.{Stages, updated_at, updates_of}
use Rattle.mm_txn.proofs.NewValues.{none_due, none_more, one_due, values_of}
use Rattle.mm_txn.proofs.StagedRows.{CanStage-fewer, Stages-none, Stages-swapped, apart_in_front, live_kept, names_none, one_from, row_kept, staged_from}
use Rattle.mm_txn.proofs.StagedRows.{staged_within}
use Rattle.mm_txn.proofs.row_edits.swaps.Goals as goal

abbrev none : RowRef
none = record { slot = 0 }

pub returns-in_err-edits-clause-kept : goal.returns-in_err-edits-clause-kept
returns-in_err-edits-clause-kept c = HasStaged-none c.args.table c.args.store.now

-- ---- the rows that were staged before

module _ (table : ℕ) (start : Tables) (there : table < length start.tables) (old : Tables) (edits : List Edit) (pairs : StoredRows → List Pair)
    (made : (stored : StoredRows) → IsAt start table stored → Stages table start old edits (pairs stored)) where
  kept_so_far : HasStaged table start old
  kept_so_far = let here = some_at start.tables table there in (made here.0 here.1).kept

  there_still : table < length old.tables
  there_still = staged_within table start old kept_so_far there

  -- for references of rows in use
  module _ (refs : List RowRef) (i : ℕ) (within : i < length refs)
      (live : (stored : StoredRows) → IsAt start table stored → All (IsLive stored.places) refs) where
    live_still : (stored : StoredRows) → IsAt old table stored → IsLive stored.places (get_or refs i none)
    live_still stored at =
        let from = staged_from table start old kept_so_far there stored at in
        live_kept from.0 stored from.2 (get_or refs i none) (All-get_or (IsLive from.0.places) refs i none within (live from.0 from.1))

    -- the row of the reference is unchanged
    row_still : (was stored : StoredRows) → IsAt start table was → IsAt old table stored
        → row_at (slot_at stored.places) (get_or refs i none) ≡ row_at (slot_at was.places) (get_or refs i none)
    row_still was stored before at =
        ap row_in (row_kept was stored (one_from table start old kept_so_far was before stored at) (get_or refs i none)
        (All-get_or (IsLive was.places) refs i none within (live was before)))

    -- the new row has the types of the table
    typed_still : (assignments : List (Assignment ℕ))
        → ((stored : StoredRows) → IsAt start table stored → All (HasTypes stored.places.types) (map (updated_at (slot_at stored.places) assignments) refs))
        → (row : List Value) → ((stored : StoredRows) → IsAt old table stored → row ≡ updated_at (slot_at stored.places) assignments (get_or refs i none))
        → (stored : StoredRows) → IsAt old table stored → HasTypes stored.places.types row
    typed_still assignments typed row is stored at =
        let from = staged_from table start old kept_so_far there stored at in
        let f : RowRef → List Value = updated_at (slot_at from.0.places) assignments in
        let some : HasTypes from.0.places.types (f (get_or refs i none)) =
        subst (HasTypes from.0.places.types) (get_or-map f refs i none row within)
        (All-get_or (HasTypes from.0.places.types) (map f refs) i row (omega (arith, within, length-map refs f)) (typed from.0 from.1)) in
        subst (λ types. HasTypes types row) (sym from.2.types)
        (subst (HasTypes from.0.places.types) (sym (is stored at ∙ ap (updated_row assignments) (row_still from.0 stored from.1 at))) some)

pub row_for-requires-clause-there : goal.row_for-requires-clause-there
row_for-requires-clause-there c =
    there_still c.args.table c.args.store.now c.requires.there c.loop-at.store c.loop-at.edits _ c.loop-at.invariant.made

pub row_for-requires-clause-live : goal.row_for-requires-clause-live
row_for-requires-clause-live c =
    live_still c.args.table c.args.store.now c.requires.there c.loop-at.store c.loop-at.edits _ c.loop-at.invariant.made c.args.refs.now c.loop-at.at-index
    c.loop-at-test.true c.requires.live

pub row_for-requires-clause-assignments : goal.row_for-requires-clause-assignments
row_for-requires-clause-assignments c = λ stored at.
    let kept = kept_so_far c.args.table c.args.store.now c.requires.there c.loop-at.store c.loop-at.edits _ c.loop-at.invariant.made in
    let from = staged_from c.args.table c.args.store.now c.loop-at.store kept c.requires.there stored at in
    subst (λ (types : List ColType). AssignmentsWithin (length types) c.args.assignments.now) (sym from.2.types) (c.requires.assignments from.0 from.1)

pub returns-in_err-row-clause-due : goal.returns-in_err-row-clause-due
returns-in_err-row-clause-due c = λ stored here.
    let refs = c.args.refs.now in
    let i = c.loop-at.at-index in
    let at : RowRef = get_or refs i none in
    let p = err_from_is_err_and c.from_residual-in_err-row.result c.from_residual-in_err-row.ensures.1 in
    let kept = kept_so_far c.args.table c.args.store.now c.requires.there c.loop-at.store c.loop-at.edits _ c.loop-at.invariant.made in
    let mid = (kept.kept stored here).0 in
    let there = staged_at c.args.table c.args.store.now c.loop-at.store kept stored here in
    let is = row_still c.args.table c.args.store.now c.requires.there c.loop-at.store c.loop-at.edits _ c.loop-at.invariant.made refs i c.loop-at-test.true
    c.requires.live stored mid here there in
    rw (p.1, p.2)
    (elim (c.in_err-row.ensures.due mid there) [
      | inl due ↦ inl (one_due (slot_at stored.places) c.args.assignments.now refs (take i refs) _ at (row_at (slot_at mid.places) at) _ (sym is)
          (split_at refs i none c.loop-at-test.true) due)
      | inr memory ↦ inr memory
    ])

pub returns-in_err-row-clause-kept : goal.returns-in_err-row-clause-kept
returns-in_err-row-clause-kept c =
    kept_so_far c.args.table c.args.store.now c.requires.there c.loop-at.store c.loop-at.edits _ c.loop-at.invariant.made

pub swap-edit-requires-clause-there : goal.swap-edit-requires-clause-there
swap-edit-requires-clause-there c =
    there_still c.args.table c.args.store.now c.requires.there c.loop-at.store c.loop-at.edits _ c.loop-at.invariant.made

pub swap-edit-requires-clause-live : goal.swap-edit-requires-clause-live
swap-edit-requires-clause-live c =
    live_still c.args.table c.args.store.now c.requires.there c.loop-at.store c.loop-at.edits _ c.loop-at.invariant.made c.args.refs.now c.loop-at.at-index
    c.loop-at-test.true c.requires.live

pub swap-edit-requires-clause-typed : goal.swap-edit-requires-clause-typed
swap-edit-requires-clause-typed c =
    typed_still c.args.table c.args.store.now c.requires.there c.loop-at.store c.loop-at.edits _ c.loop-at.invariant.made c.args.refs.now c.loop-at.at-index
    c.loop-at-test.true c.requires.live c.args.assignments.now c.requires.typed c.in_ok-row.row c.in_ok-row.ensures.ok

pub returns-in_err-push-clause-kept : goal.returns-in_err-push-clause-kept
returns-in_err-push-clause-kept c =
    HasStaged-both c.args.table c.args.store.now c.loop-at.store c.swap-edit.new.store
    (kept_so_far c.args.table c.args.store.now c.requires.there c.loop-at.store c.loop-at.edits _ c.loop-at.invariant.made) c.swap-edit.ensures.kept

pub loop-at-preserved : goal.loop-at-preserved
loop-at-preserved c =
    let table = c.args.table in
    let start = c.args.store.now in
    let old = c.loop-at.store in
    let new = c.swap-edit.new.store in
    let refs = c.args.refs.now in
    let i = c.loop-at.at-index in
    let at : RowRef = get_or refs i none in
    let assignments = c.args.assignments.now in
    let row = c.in_ok-row.row in
    let edit = c.swap-edit.result in
    let inv = c.loop-at.invariant in
    let within = c.loop-at-test.true in
    let kept = kept_so_far table start c.requires.there old c.loop-at.edits _ inv.made in
    let more : take (i + 1) refs ≡ take i refs ++ at ∷ [] = take_more refs i none within in
    let there = there_still table start c.requires.there old c.loop-at.edits _ inv.made in
    let now_live = live_still table start c.requires.there old c.loop-at.edits _ inv.made refs i within c.requires.live in
    let same_row = row_still table start c.requires.there old c.loop-at.edits _ inv.made refs i within c.requires.live in
    record {
      made = λ stored here.
          let f : RowRef → List Value = row_at (slot_at stored.places) in
          let mid = (kept.kept stored here).0 in
          let at_mid = staged_at table start old kept stored here in
          let pairs = updates_of assignments (map f (take i refs)) in
          let row_is : row ≡ updated_row assignments (f at) = c.in_ok-row.ensures.ok mid at_mid ∙ ap (updated_row assignments)
          (same_row stored mid here at_mid) in
          let all : updates_of assignments (map f (take (i + 1) refs)) ≡ pairs ++ (Some (f at), Some row) ∷ [] =
          ap (λ rs. updates_of assignments (map f rs)) more
          ∙ (ap (updates_of assignments) (map-append f (take i refs) (at ∷ []))
          ∙ (map-append (λ (r : List Value). (Some r, Some (updated_row assignments r))) (map f (take i refs)) (f at ∷ [])
          ∙ ap (λ (r : List Value). pairs ++ (Some (f at), Some r) ∷ []) (sym row_is))) in
          subst (λ (es : List Edit). Stages table start new es (updates_of assignments (map f (take (i + 1) refs)))) (sym c.in_ok-push.ensures.ok)
          (subst (Stages table start new (c.loop-at.edits ++ edit ∷ [])) (sym all)
          (Stages-swapped table start old new c.loop-at.edits pairs (inv.made stored here) c.swap-edit.ensures.kept there at row edit
          c.swap-edit.ensures.swapped
          (typed_still table start c.requires.there old c.loop-at.edits _ inv.made refs i within c.requires.live assignments c.requires.typed row
          c.in_ok-row.ensures.ok)
          now_live (names_none c.loop-at.edits (take i refs) at inv.names (apart_in_front refs i none c.requires.apart within)) (f at)
          (λ s there_s. same_row stored s here there_s)));
      names =
          let here = some_at start.tables table c.requires.there in
          let mid = (kept.kept here.0 here.1).0 in
          let at_mid = staged_at table start old kept here.0 here.1 in
          let last = (c.swap-edit.ensures.kept.kept mid at_mid).0 in
          let at_last = staged_at table old new c.swap-edit.ensures.kept mid at_mid in
          ap (map old_slot) c.in_ok-push.ensures.ok
          ∙ (map-append old_slot c.loop-at.edits (edit ∷ [])
          ∙ (ap₂ (λ (xs : List (Option RowRef)) (x : Option RowRef). xs ++ x ∷ []) inv.names (c.swap-edit.ensures.swapped mid last at_mid at_last).takes
          ∙ sym (ap (map Some) more ∙ map-append (λ (r : RowRef). Some r) (take i refs) (at ∷ []))));
      in_range = λ stored here.
          let mid = (kept.kept stored here).0 in
          let at_mid = staged_at table start old kept stored here in
          subst (λ rs. list_any is_past_range (values_of (slot_at stored.places) assignments rs) ≡ false) (sym more)
          (none_more (slot_at stored.places) assignments (take i refs) at (row_at (slot_at mid.places) at) (sym (same_row stored mid here at_mid))
          (inv.in_range stored here) (c.in_ok-row.ensures.due mid at_mid));
      room = c.swap-edit.ensures.room (length refs - (i + 1))
          (CanStage-fewer (length refs - i) (length refs - (i + 1) + 1) table old (omega (arith, within)) inv.room);
    }

pub returns-clause-kept : goal.returns-clause-kept
returns-clause-kept c = kept_so_far c.args.table c.args.store.now c.requires.there c.loop-at.store c.loop-at.edits _ c.loop-at.invariant.made
