-- The edits are those of the bound change.
use Rattle.std.proofs.Common.{◌≡◌, ℕ, ◌<◌, Err, List, Some, length, map, slice_get, refl, sym, ap, subst, ◌∙◌}
use Rattle.std.proofs.lemmas.Option.{get_or_from_slice_get, slice_get_within}
use Rattle.std.proofs.lemmas.Result.{err_from_is_err_and}
use Rattle.std.specs.List.{All, filter}
use Rattle.mm_partition.specs.Places.{slot_at}
use Rattle.mm_partition.specs.Types.{HasTypes}
use Rattle.mm_plan.specs.Finding.{meets}
use Rattle.mm_indexed.specs.Kept.{IsKept, StoredRows}
use Rattle.mm_indexed.specs.RowLists.{rows_of}
use Rattle.mm_schema.specs.Refused.{AnswersDue}
use Rattle.mm_schema.specs.Rows.{additions}
use Rattle.mm_schema.specs.Schema.{Schema, table_place}
use Rattle.mm_query.specs.Atoms.{updated_row}
use Rattle.mm_query.specs.Binding.{AssignmentsWithin, Binds}
use Rattle.mm_query.specs.Edits.{changed_table, removals_of}
use Rattle.mm_query.specs.declared.bind.BoundChange.TheVariants as bound
use Rattle.mm_query.specs.declared.command.Mutation.{Mutation}
use Rattle.mm_query.proofs.Binds.{bound_pairs, bound_place, delete_place, update_place}
use Rattle.mm_store.proofs.Joining.{some_at}
use Rattle.mm_store.specs.Joined.{IsTable}
use Rattle.mm_store.specs.Tables.{IsAt, Tables}
use Rattle.mm_txn.specs.Bound.{IsBoundChange, bound_of}
use Rattle.mm_txn.specs.Kept.{state_of}
use Rattle.mm_txn.specs.RowEdits.{Stages, updates_of}
use Rattle.mm_txn.specs.declared.bound.ChangeToRun.{ChangeToRun}
use Rattle.mm_txn.proofs.ChangeSteps.{delete_owns, insert_typed, one_there, place_within_rows, stored_edits, types_are}
use Rattle.mm_txn.proofs.ChangeSteps.{update_due, update_owns, update_within, width_is}
use Rattle.mm_txn.proofs.StagedRows.{KeepsState-staged}
use Rattle.mm_txn.proofs.TypedEdits.{rows_updated_typed}
use Rattle.mm_txn.proofs.edits.own_edits.Goals as goal
use Rattle.mm_txn.proofs.edits.own_edits.Goals.{In-Insert, In-Update, In-Delete}

kept_at : (tables : List StoredRows) → All IsTable tables → (place : ℕ) (stored : StoredRows) → slice_get tables place ≡ Some stored
    → IsKept stored.places.types stored.key (slot_at stored.places) stored.refs stored.indexes
kept_at tables all place stored at =
    (subst IsTable (get_or_from_slice_get tables place stored stored at) (all place stored (slice_get_within tables place stored at))).kept

-- ---- INSERT

bound_insert : (c : In-Insert) (schema : Schema) (mutation : Mutation) → IsBoundChange schema mutation (bound_of c.args.change)
    → Binds schema mutation (bound.Insert c.in-Insert.table c.in-Insert.tuples)
bound_insert c schema mutation is = subst (λ (change : ChangeToRun). Binds schema mutation (bound_of change)) c.in-Insert.is is.binds

insert_there : (c : In-Insert) → c.in-Insert.table < length c.args.store.now.tables
insert_there c =
    let (schema, mutation, are, is) = c.requires in
    place_within_rows schema c.args.store.now.tables are mutation c.in-Insert.table
    (bound_place schema mutation c.in-Insert.table c.in-Insert.tuples (bound_insert c schema mutation is))

pub additions-requires-clause-there : goal.additions-requires-clause-there
additions-requires-clause-there c = insert_there (goal.at.additions-requires-clause-there c).In-Insert

pub additions-requires-clause-typed : goal.additions-requires-clause-typed
additions-requires-clause-typed c = λ stored at.
    let (schema, mutation, are, is) = c.requires in
    let binds = bound_insert (goal.at.additions-requires-clause-typed c).In-Insert schema mutation is in
    subst (All (HasTypes stored.places.types)) (sym c.into_rows.ensures)
    (insert_typed schema c.args.store.now.tables are mutation c.in-Insert.table c.in-Insert.tuples binds is.due stored at)

pub returns-in_err-edits-in-Insert-clause-store : goal.returns-in_err-edits-in-Insert-clause-store
returns-in_err-edits-in-Insert-clause-store c =
    KeepsState-staged c.in-Insert.table c.args.store.now c.additions.new.store
    (insert_there (goal.at.returns-in_err-edits-in-Insert-clause-store c).In-Insert) c.additions.ensures.kept

pub returns-in_ok-edits-in-Insert-clause-ok : goal.returns-in_ok-edits-in-Insert-clause-ok
returns-in_ok-edits-in-Insert-clause-ok c = λ schema mutation are is.
    let binds = bound_insert (goal.at.returns-in_ok-edits-in-Insert-clause-ok c).In-Insert schema mutation is in
    let table = c.in-Insert.table in
    let rows = c.in-Insert.tuples in
    let made = subst (λ rs. Stages table c.args.store.now c.additions.new.store c.in_ok-edits-in-Insert.edits (additions rs)) c.into_rows.ensures
    c.in_ok-edits-in-Insert.ensures.made in
    let kept = KeepsState-staged table c.args.store.now c.additions.new.store
    (insert_there (goal.at.returns-in_ok-edits-in-Insert-clause-ok c).In-Insert) c.additions.ensures.kept in
    stored_edits schema c.args.store.now.tables c.additions.new.store.tables mutation table (bound_place schema mutation table rows binds) kept.rows
    c.in_ok-edits-in-Insert.edits (additions rows) (bound_pairs schema mutation table rows (state_of schema c.args.store.now.tables) binds) made.fit
    made.pairs_are

pub returns-in_ok-edits-in-Insert-clause-store : goal.returns-in_ok-edits-in-Insert-clause-store
returns-in_ok-edits-in-Insert-clause-store c =
    KeepsState-staged c.in-Insert.table c.args.store.now c.additions.new.store
    (insert_there (goal.at.returns-in_ok-edits-in-Insert-clause-store c).In-Insert) c.additions.ensures.kept

-- ---- UPDATE

bound_update : (c : In-Update) (schema : Schema) (mutation : Mutation) → IsBoundChange schema mutation (bound_of c.args.change)
    → Binds schema mutation (bound.Update c.in-Update.table c.in-Update.assignments.now c.in-Update.tests.now)
bound_update c schema mutation is = subst (λ (change : ChangeToRun). Binds schema mutation (bound_of change)) c.in-Update.is is.binds

update_placed : (c : In-Update) (schema : Schema) (mutation : Mutation) → IsBoundChange schema mutation (bound_of c.args.change)
    → table_place (changed_table mutation) schema ≡ Some c.in-Update.table
update_placed c schema mutation is =
    update_place schema mutation c.in-Update.table c.in-Update.assignments.now c.in-Update.tests.now (bound_update c schema mutation is)

update_there : (c : In-Update) → c.in-Update.table < length c.args.store.now.tables
update_there c =
    let (schema, mutation, are, is) = c.requires in
    place_within_rows schema c.args.store.now.tables are mutation c.in-Update.table (update_placed c schema mutation is)

pub updates-requires-clause-there : goal.updates-requires-clause-there
updates-requires-clause-there c = update_there (goal.at.updates-requires-clause-there c).In-Update

pub updates-requires-clause-assignments : goal.updates-requires-clause-assignments
updates-requires-clause-assignments c = λ stored at.
    let (schema, mutation, are, is) = c.requires in
    let d = (goal.at.updates-requires-clause-assignments c).In-Update in
    let width = width_is schema c.args.store.now.tables are mutation c.in-Update.table (update_placed d schema mutation is) stored at in
    subst (λ (n : ℕ). AssignmentsWithin n c.in-Update.assignments.now) width
    (update_within schema mutation c.in-Update.table c.in-Update.assignments.now c.in-Update.tests.now (bound_update d schema mutation is))

pub updates-requires-clause-typed : goal.updates-requires-clause-typed
updates-requires-clause-typed c = λ stored at.
    let (schema, mutation, are, is) = c.requires in
    let d = (goal.at.updates-requires-clause-typed c).In-Update in
    let rs = c.args.store.now.tables in
    let table = c.in-Update.table in
    let assignments = c.in-Update.assignments.now in
    let tests = c.in-Update.tests.now in
    let placed = update_placed d schema mutation is in
    let binds = bound_update d schema mutation is in
    subst (λ types. All (HasTypes types) (map (updated_row assignments) (filter (meets tests) (rows_of stored))))
    (types_are schema rs are mutation table placed stored at)
    (rows_updated_typed schema rs are (kept_at rs c.keeps_tables.ensures) is.distinct mutation table assignments tests binds is.due
    (filter (meets tests) (rows_of stored)) (update_owns schema rs are mutation table placed stored at assignments tests binds))

pub returns-in_err-edits-in-Update-clause-due : goal.returns-in_err-edits-in-Update-clause-due
returns-in_err-edits-in-Update-clause-due c = λ schema mutation are is.
    let p = err_from_is_err_and c.from_residual-in_err-edits-in-Update.result c.from_residual-in_err-edits-in-Update.ensures.1 in
    let d = (goal.at.returns-in_err-edits-in-Update-clause-due c).In-Update in
    let rs = c.args.store.now.tables in
    let here = some_at rs c.in-Update.table (update_there d) in
    rw (p.1, p.2) (subst (λ d. AnswersDue {T = Unit {0}} d (Err c.in_err-edits-in-Update.field-0.0))
    (update_due schema rs are mutation c.in-Update.table (update_placed d schema mutation is) here.0 here.1 c.in-Update.assignments.now c.in-Update.tests.now
    (bound_update d schema mutation is) is.due)
    (c.in_err-edits-in-Update.ensures.due here.0 here.1))

pub returns-in_err-edits-in-Update-clause-store : goal.returns-in_err-edits-in-Update-clause-store
returns-in_err-edits-in-Update-clause-store c =
    KeepsState-staged c.in-Update.table c.args.store.now c.updates.new.store
    (update_there (goal.at.returns-in_err-edits-in-Update-clause-store c).In-Update) c.updates.ensures.kept

pub returns-in_ok-edits-in-Update-clause-due : goal.returns-in_ok-edits-in-Update-clause-due
returns-in_ok-edits-in-Update-clause-due c = λ schema mutation are is.
    let d = (goal.at.returns-in_ok-edits-in-Update-clause-due c).In-Update in
    let rs = c.args.store.now.tables in
    let here = some_at rs c.in-Update.table (update_there d) in
    sym (update_due schema rs are mutation c.in-Update.table (update_placed d schema mutation is) here.0 here.1 c.in-Update.assignments.now
    c.in-Update.tests.now (bound_update d schema mutation is) is.due)
    ∙ c.in_ok-edits-in-Update.ensures.due here.0 here.1

pub returns-in_ok-edits-in-Update-clause-ok : goal.returns-in_ok-edits-in-Update-clause-ok
returns-in_ok-edits-in-Update-clause-ok c = λ schema mutation are is.
    let d = (goal.at.returns-in_ok-edits-in-Update-clause-ok c).In-Update in
    let rs = c.args.store.now.tables in
    let table = c.in-Update.table in
    let assignments = c.in-Update.assignments.now in
    let tests = c.in-Update.tests.now in
    let here = some_at rs table (update_there d) in
    let placed = update_placed d schema mutation is in
    let made = c.in_ok-edits-in-Update.ensures.made here.0 here.1 in
    let kept = KeepsState-staged table c.args.store.now c.updates.new.store (update_there d) c.updates.ensures.kept in
    stored_edits schema rs c.updates.new.store.tables mutation table placed kept.rows c.in_ok-edits-in-Update.edits
    (updates_of assignments (filter (meets tests) (rows_of here.0)))
    (update_owns schema rs are mutation table placed here.0 here.1 assignments tests (bound_update d schema mutation is)) made.fit made.pairs_are

pub returns-in_ok-edits-in-Update-clause-store : goal.returns-in_ok-edits-in-Update-clause-store
returns-in_ok-edits-in-Update-clause-store c =
    KeepsState-staged c.in-Update.table c.args.store.now c.updates.new.store
    (update_there (goal.at.returns-in_ok-edits-in-Update-clause-store c).In-Update) c.updates.ensures.kept

-- ---- DELETE

bound_delete : (c : In-Delete) (schema : Schema) (mutation : Mutation) → IsBoundChange schema mutation (bound_of c.args.change)
    → Binds schema mutation (bound.Delete c.in-Delete.table c.in-Delete.tests.now)
bound_delete c schema mutation is = subst (λ (change : ChangeToRun). Binds schema mutation (bound_of change)) c.in-Delete.is is.binds

pub removals-requires : goal.removals-requires
removals-requires c =
    let (schema, mutation, are, is) = c.requires in
    let binds = bound_delete (goal.at.removals-requires c).In-Delete schema mutation is in
    subst (λ (s : Tables). c.in-Delete.table < length s.tables) (sym c.view-view.ensures.store)
    (place_within_rows schema c.args.store.now.tables are mutation c.in-Delete.table
    (delete_place schema mutation c.in-Delete.table c.in-Delete.tests.now binds))

pub returns-in_ok-edits-in-Delete-clause-ok : goal.returns-in_ok-edits-in-Delete-clause-ok
returns-in_ok-edits-in-Delete-clause-ok c = λ schema mutation are is.
    let rs = c.args.store.now.tables in
    let table = c.in-Delete.table in
    let tests = c.in-Delete.tests.now in
    let binds = bound_delete (goal.at.returns-in_ok-edits-in-Delete-clause-ok c).In-Delete schema mutation is in
    let placed = delete_place schema mutation table tests binds in
    let here = some_at rs table (place_within_rows schema rs are mutation table placed) in
    let seen = λ (stored : StoredRows) (at : slice_get rs table ≡ Some stored).
    subst (λ (s : Tables). IsAt s table stored) (sym c.view-view.ensures.store) at in
    stored_edits schema rs rs mutation table placed refl c.in_ok-edits-in-Delete.edits (removals_of (filter (meets tests) (rows_of here.0)))
    (delete_owns schema rs are mutation table placed here.0 here.1 tests binds)
    (λ stored at. c.in_ok-edits-in-Delete.ensures.fit stored (seen stored at))
    (λ stored at. c.in_ok-edits-in-Delete.ensures.pairs stored (seen stored at)
    ∙ ap (λ (s : StoredRows). removals_of (filter (meets tests) (rows_of s))) (one_there rs table stored here.0 at here.1))
