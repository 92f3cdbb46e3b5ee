use Rattle.std.proofs.Common.{◌≡◌, ◌≢◌, List, map, ap, ◌∙◌, subst, sym}
use Rattle.std.specs.List.{All, AllPairs, filter}
use Rattle.std.proofs.lemmas.Result.{IfOk-weaker}
use Rattle.mm_indexed.specs.Kept.{StoredRows}
use Rattle.mm_indexed.specs.RowLists.{rows_of}
use Rattle.mm_partition.specs.Places.{IsLive, slot_at}
use Rattle.mm_partition.specs.Types.{HasTypes}
use Rattle.mm_plan.specs.Finding.{meeting, meets}
use Rattle.mm_query.specs.Atoms.{range_conditions, updated_row}
use Rattle.mm_row_order.specs.Refs.{Slots, row_at}
use Rattle.mm_schema.specs.Refused.{AnswersDue, first_refusal}
use Rattle.mm_select.proofs.Fits.{filter-map}
use Rattle.mm_store.proofs.Joining.{some_at}
use Rattle.mm_store.proofs.Shown.{table_seen}
use Rattle.mm_store.proofs.Staging.{HasStaged-none}
use Rattle.mm_store.specs.Tables.{IsAt, Tables}
use Rattle.mm_value.specs.declared.row_ref.RowRef.{RowRef}
use Rattle.mm_value.specs.declared.values.Value.{Value}
use Rattle.mm_txn.specs.RowEdits.{Stages, updated_at, updates_of}
use Rattle.mm_txn.proofs.EditsMade.{updated_refs}
use Rattle.mm_txn.proofs.NewValues.{values-updates, values_of}
use Rattle.mm_txn.proofs.RowsPassing.{passing_apart, passing_live}
use Rattle.mm_txn.proofs.row_edits.updates.Goals as goal

pub returns-in_err-found-clause-kept : goal.returns-in_err-found-clause-kept
returns-in_err-found-clause-kept c = HasStaged-none c.args.table c.args.store.now

pub swaps-requires : goal.swaps-requires
swaps-requires c =
    let table = c.args.table in
    let atoms = c.args.atoms.now in
    let assignments = c.args.assignments.now in
    let view = c.view-view.result in
    let seen = λ (stored : StoredRows) (at : IsAt c.args.store.now table stored). subst (λ (s : Tables). IsAt s table stored)
    (sym c.view-view.ensures.store) at in
    let refs = λ (stored : StoredRows) (at : IsAt c.args.store.now table stored). c.as_slice.ensures ∙ c.in_ok-found.ensures.found stored (seen stored at) in
    record {
      there = c.requires.there;
      live = λ stored at.
          subst (All (IsLive stored.places)) (sym (refs stored at))
          (passing_live stored (table_seen view table stored (seen stored at)).kept (λ r. meets atoms (row_at (slot_at stored.places) r)));
      apart =
          let here = some_at c.args.store.now.tables table c.requires.there in
          subst (AllPairs (λ a b. a ≢ b)) (sym (refs here.0 here.1))
          (passing_apart here.0 (table_seen view table here.0 (seen here.0 here.1)).kept (λ r. meets atoms (row_at (slot_at here.0.places) r)));
      assignments = c.requires.assignments;
      typed = λ stored at.
          let now : Slots = slot_at stored.places in
          subst (λ (rs : List RowRef). All (HasTypes stored.places.types) (map (updated_at now assignments) rs)) (sym (refs stored at))
          (subst (All (HasTypes stored.places.types))
          (ap (map (updated_row assignments)) (filter-map (meets atoms) (row_at now) stored.refs)
          ∙ sym (updated_refs now assignments (filter (λ r. meets atoms (row_at now r)) stored.refs)))
          (c.requires.typed stored at));
    }

pub returns : goal.returns
returns c =
    let table = c.args.table in
    let atoms = c.args.atoms.now in
    let assignments = c.args.assignments.now in
    let seen = λ (stored : StoredRows) (at : IsAt c.args.store.now table stored). subst (λ (s : Tables). IsAt s table stored)
    (sym c.view-view.ensures.store) at in
    let refs = λ (stored : StoredRows) (at : IsAt c.args.store.now table stored). c.as_slice.ensures ∙ c.in_ok-found.ensures.found stored (seen stored at) in
    record {
      due = λ stored at.
          subst (λ (values : List Value). AnswersDue (first_refusal (range_conditions values)) c.swaps.result)
          (ap (values_of (slot_at stored.places) assignments) (refs stored at)
          ∙ sym (values-updates (slot_at stored.places) assignments (meets atoms) stored.refs))
          (c.swaps.ensures.due stored at);
      made = IfOk-weaker c.swaps.result _ _
          (λ edits made stored at.
          subst (Stages table c.args.store.now c.swaps.new.store edits)
          (ap (λ (rs : List RowRef). updates_of assignments (map (row_at (slot_at stored.places)) rs)) (refs stored at)
          ∙ ap (updates_of assignments) (sym (filter-map (meets atoms) (row_at (slot_at stored.places)) stored.refs)))
          (made stored at)) c.swaps.ensures.made;
      kept = c.swaps.ensures.kept;
    }
