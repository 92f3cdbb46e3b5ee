-- The table at the place of a name is dropped from the catalog and from the store.
use Rattle.std.proofs.Common.{◌≡◌, ◌≢◌, cond, List, Some, None, inl, sym, ap, subst, ◌∙◌, arith}
use Rattle.std.specs.List.{All}
use Rattle.std.proofs.lemmas.Result.{err_from_is_err_and}
use Rattle.mm_indexed.specs.Kept.{StoredRows}
use Rattle.mm_schema.specs.Refused.{first_refusal}
use Rattle.mm_schema.specs.Schema.{Schema, drop_table_conditions, is_in_use, without_table}
use Rattle.mm_schema.specs.declared.reference.Reference.{Reference}
use Rattle.mm_value.specs.declared.refusal.Refusal.{Refusal}
use Rattle.mm_value.specs.declared.refusal.Refusal.TheVariants.{InUse, NoSuchTable}
use Rattle.mm_query.proofs.Due.{lacks_nowhere}
use Rattle.mm_query.specs.Machine.{after_definition}
use Rattle.mm_query.specs.State.{State}
use Rattle.mm_query.specs.declared.command.Definition.TheVariants as define
use Rattle.mm_txn.specs.Contents.{Holdings, state_held}
use Rattle.mm_plan.specs.Kept.{AreOf, instance_of}
use Rattle.mm_txn.specs.Rest.{AreAtRest, state_at_rest}
use Rattle.mm_txn.proofs.DatabaseSteps.{rows_there, some_there, table_dropped}
use Rattle.mm_txn.proofs.KeptReferences.{kept_by_no_table, none_to_dropped}
use Rattle.mm_txn.proofs.Resting.{rest_by_no_table, state_by_no_table}
use Rattle.mm_txn.proofs.RowsBeside.{beside}
use Rattle.mm_txn.proofs.contents.Contents.drop_table.Goals as goal

pub returns-in_err-place-clause-due : goal.returns-in_err-place-clause-due
returns-in_err-place-clause-due c =
    let p = err_from_is_err_and c.from_residual.result c.from_residual.ensures.1 in
    let lacks = lacks_nowhere c.args.name.now c.self.inside.catalog (sym c.place_of.ensures.place ∙ c.in_err-place.ensures.ok_part) in
    let told : NoSuchTable ≡ c.in_err-place.field-0.0 = grind arith in
    rw (p.1, p.2) (inl (sym (ap (λ (h : Holdings). first_refusal (drop_table_conditions c.args.name.now h.schema)) c.self.view_is)
    ∙ (ap (λ b. cond b (Some NoSuchTable) (cond (is_in_use c.args.name.now c.self.inside.catalog)
    (Some InUse) None)) lacks ∙ ap (λ (r : Refusal). Some r) told)))

pub drop_table-requires-2-clause-there : goal.drop_table-requires-2-clause-there
drop_table-requires-2-clause-there c =
    rows_there c.self.inside.catalog c.self.inside.store.tables c.self.invariant.kept.relations c.args.name.now c.in_ok-place.place
    (sym c.place_of.ensures.place ∙ c.in_ok-place.ensures.ok_part)

pub drop_table-requires-2-clause-unused : goal.drop_table-requires-2-clause-unused
drop_table-requires-2-clause-unused c =
    let placed = sym c.place_of.ensures.place ∙ c.in_ok-place.ensures.ok_part in
    let stored = some_there c.self.inside.store.tables c.in_ok-place.place
    (rows_there c.self.inside.catalog c.self.inside.store.tables c.self.invariant.kept.relations
    c.args.name.now c.in_ok-place.place placed) in
    let at = beside c.self.inside.catalog.tables c.self.inside.store.tables c.in_ok-place.place stored.0 c.self.invariant.kept.relations stored.1 in
    subst (All (λ (r : Reference). r.to ≢ c.in_ok-place.place)) (sym c.self.invariant.kept.links)
    (none_to_dropped c.self.inside.catalog c.args.name.now c.in_ok-place.place placed at.table at.there c.self.invariant.kept.targets
    c.self.invariant.kept.others
    c.in_ok-drop_table.ensures.due)

pub invariant_of-self-2 : goal.invariant_of-self-2
invariant_of-self-2 c =
    let schema = c.self.inside.catalog in
    let store = c.self.inside.store in
    let name = c.args.name.now in
    let placed = sym c.place_of.ensures.place ∙ c.in_ok-place.ensures.ok_part in
    let dropped = table_dropped schema store.tables c.self.invariant.kept.relations name c.in_ok-place.place placed c.place_of.ensures.distinct in
    let rows = ap (λ (rs : List StoredRows). instance_of rs) c.drop_table-2.ensures.tables ∙ ap (λ (s : State). s.rows) dropped.0 in
    let kept = kept_by_no_table schema store c.drop_table-2.new.self c.self.invariant.kept name c.in_ok-place.place placed c.place_of.ensures.distinct
    c.in_ok-drop_table.ensures.due
    (subst (λ (rs : List StoredRows). AreOf (without_table name schema).tables rs) (sym c.drop_table-2.ensures.tables) dropped.1)
    c.drop_table-2.ensures.links in
    subst (λ (s : Schema). AreAtRest s c.drop_table-2.new.self c.table_dropped.new.self) (sym c.in_ok-drop_table.ensures.ok)
    (subst (AreAtRest (without_table name schema) c.drop_table-2.new.self) (sym c.table_dropped.ensures)
    (rest_by_no_table schema store c.drop_table-2.new.self c.self.inside.standing c.self.invariant name c.in_ok-place.place placed c.place_of.ensures.distinct
    c.in_ok-drop_table.ensures.due kept rows))

pub returns-clause-ok : goal.returns-clause-ok
returns-clause-ok c =
    let schema = c.self.inside.catalog in
    let store = c.self.inside.store in
    let name = c.args.name.now in
    let placed = sym c.place_of.ensures.place ∙ c.in_ok-place.ensures.ok_part in
    let dropped = table_dropped schema store.tables c.self.invariant.kept.relations name c.in_ok-place.place placed c.place_of.ensures.distinct in
    let rows = ap (λ (rs : List StoredRows). instance_of rs) c.drop_table-2.ensures.tables ∙ ap (λ (s : State). s.rows) dropped.0 in
    (λ i. state_at_rest (c.in_ok-drop_table.ensures.ok i) c.drop_table-2.new.self (c.table_dropped.ensures i))
    ∙ state_by_no_table schema store c.drop_table-2.new.self c.self.inside.standing c.self.invariant name c.in_ok-place.place placed c.place_of.ensures.distinct
    c.in_ok-drop_table.ensures.due rows
    ∙ ap (λ (h : Holdings). after_definition (define.DropTable name) (state_held h)) c.self.view_is
