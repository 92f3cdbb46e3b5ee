-- The rows at the place of a name are those of that name.
use Rattle.std.proofs.Common.{◌≡◌, true, false, cond, [], Some, None, sym, ap, ◌∙◌, arith}
use Rattle.std.specs.Option.{option_map_or}
use Rattle.std.proofs.lemmas.Result.{err_from_is_err_and}
use Rattle.mm_schema.specs.Schema.{lacks_table}
use Rattle.mm_value.specs.declared.refusal.Refusal.{Refusal}
use Rattle.mm_value.specs.declared.refusal.Refusal.TheVariants.{NoSuchTable}
use Rattle.mm_query.specs.State.{State, rows_in}
use Rattle.mm_query.proofs.Due.{lacks_nowhere, not_lacking}
use Rattle.mm_indexed.specs.RowLists.{rows_of}
use Rattle.mm_txn.proofs.DatabaseSteps.{rows_of_name, rows_there, some_there}
use Rattle.mm_txn.proofs.RowsBeside.{beside}
use Rattle.mm_txn.specs.Contents.{state_held}
use Rattle.mm_txn.proofs.contents.Contents.scan.Goals as goal

pub returns-in_err-place-clause-due : goal.returns-in_err-place-clause-due
returns-in_err-place-clause-due c =
    let seen = ap state_held c.self.view_is in
    let p = err_from_is_err_and c.from_residual.result c.from_residual.ensures.1 in
    let lacks = lacks_nowhere c.args.table.now c.self.inside.catalog (sym c.place_of.ensures.place ∙ c.in_err-place.ensures.ok_part) in
    let lacks_now : lacks_table c.args.table.now
    (state_held c.args.self.now).schema ≡ true = sym (ap (λ (s : State). lacks_table c.args.table.now s.schema) seen) ∙ lacks in
    let told : NoSuchTable ≡ c.in_err-place.field-0.0 = grind arith in
    rw (p.1, p.2) (ap (λ b. cond b (Some NoSuchTable) None) lacks_now ∙ ap (λ (r : Refusal). Some r) told)

pub rows_by_key-requires : goal.rows_by_key-requires
rows_by_key-requires c =
    rows_there c.self.inside.catalog c.self.inside.store.tables c.self.invariant.kept.relations c.args.table.now c.in_ok-place.place
    (sym c.place_of.ensures.place ∙ c.in_ok-place.ensures.ok_part)

pub returns-clause-due : goal.returns-clause-due
returns-clause-due c =
    let seen = ap state_held c.self.view_is in
    let placed = sym c.place_of.ensures.place ∙ c.in_ok-place.ensures.ok_part in
    let tables = c.self.inside.store.tables in
    let (stored, there) = some_there tables c.in_ok-place.place
    (rows_there c.self.inside.catalog tables c.self.invariant.kept.relations c.args.table.now c.in_ok-place.place placed) in
    let at = beside c.self.inside.catalog.tables tables c.in_ok-place.place stored c.self.invariant.kept.relations there in
    let found = not_lacking c.args.table.now c.self.inside.catalog c.in_ok-place.place at.table placed at.there in
    let found_now : lacks_table c.args.table.now
    (state_held c.args.self.now).schema ≡ false = sym (ap (λ (s : State). lacks_table c.args.table.now s.schema) seen) ∙ found in
    ap (λ b. cond b (Some NoSuchTable) None) found_now

pub returns-clause-rows : goal.returns-clause-rows
returns-clause-rows c =
    let seen = ap state_held c.self.view_is in
    let placed = sym c.place_of.ensures.place ∙ c.in_ok-place.ensures.ok_part in
    let tables = c.self.inside.store.tables in
    let (stored, there) = some_there tables c.in_ok-place.place
    (rows_there c.self.inside.catalog tables c.self.invariant.kept.relations c.args.table.now c.in_ok-place.place placed) in
    c.rows_by_key.ensures
    ∙ ap (λ o. option_map_or rows_of o []) there
    ∙ sym (rows_of_name c.self.inside.catalog tables c.self.invariant.kept.relations c.args.table.now c.in_ok-place.place placed stored there)
    ∙ ap (λ (s : State). rows_in s c.args.table.now) seen
