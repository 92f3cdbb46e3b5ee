-- The new index is at the same place in the catalog and in the relation.
use Rattle.std.proofs.Common.{◌≡◌, [], List, Some, None, inl, sym, ap, subst, ◌∙◌, arith}
use Rattle.std.proofs.lemmas.Result.{err_from_is_err_and}
use Rattle.mm_indexed.specs.Kept.{StoredRows}
use Rattle.mm_schema.specs.Schema.{Schema}
use Rattle.mm_value.specs.declared.refusal.Refusal.{Refusal}
use Rattle.mm_value.specs.declared.refusal.Refusal.TheVariants.{NoSuchColumn, NoSuchTable}
use Rattle.mm_query.proofs.Due.{lacks_nowhere}
use Rattle.mm_store.specs.Tables.{Tables}
use Rattle.mm_plan.specs.Kept.{AreKept, AreOf}
use Rattle.mm_txn.specs.Kept.{state_of}
use Rattle.mm_txn.proofs.DatabaseSteps.{rows_there}
use Rattle.mm_txn.proofs.GoingBack.{KeepsLog-refl}
use Rattle.mm_txn.proofs.IndexSteps.{column_found, column_within, index_added, no_column_due, no_table_due, taken_back}
use Rattle.mm_txn.proofs.KeptReferences.{kept_by_index, kept_by_rows}
use Rattle.mm_txn.proofs.definitions.add_index.Goals as goal

pub returns-in_err-place-clause-due : goal.returns-in_err-place-clause-due
returns-in_err-place-clause-due c =
    let p = err_from_is_err_and c.from_residual.result c.from_residual.ensures.1 in
    let lacks = lacks_nowhere c.args.index.table c.args.catalog.now (sym c.place_of.ensures.place ∙ c.in_err-place.ensures.ok_part) in
    let told : NoSuchTable ≡ c.in_err-place.field-0.0 = grind arith in
    let due = no_table_due c.args.index c.args.catalog.now lacks ∙ ap (λ (r : Refusal). Some r) told in
    rw (p.1, p.2) (inl due)

pub returns-in_err-column-clause-due : goal.returns-in_err-column-clause-due
returns-in_err-column-clause-due c =
    let p = err_from_is_err_and c.from_residual-in_err-column.result c.from_residual-in_err-column.ensures.1 in
    let told : NoSuchColumn ≡ c.in_err-column.field-0.0 = grind arith in
    let due = no_column_due c.args.index c.args.catalog.now c.in_ok-place.place c.table_at.result.now
    (sym c.place_of.ensures.place ∙ c.in_ok-place.ensures.ok_part) c.table_at.ensures
    (column_found c.table_at.result.now.definition.columns c.as_ref.ensures c.place_of-2.ensures c.in_err-column.ensures.ok_part)
    ∙ ap (λ (r : Refusal). Some r) told in
    rw (p.1, p.2) (inl due)

pub returns-in_err-add_index-clause-due : goal.returns-in_err-add_index-clause-due
returns-in_err-add_index-clause-due c =
    let p = err_from_is_err_and c.from_residual-in_err-add_index.result c.from_residual-in_err-add_index.ensures.1 in
    rw (p.1, p.2) c.in_err-add_index.ensures.due

pub add_index-requires-2-clause-there : goal.add_index-requires-2-clause-there
add_index-requires-2-clause-there c =
    rows_there c.args.catalog.now c.args.store.now.tables c.requires.relations c.args.index.table c.in_ok-place.place
    (sym c.place_of.ensures.place ∙ c.in_ok-place.ensures.ok_part)

pub add_index-requires-2-clause-column : goal.add_index-requires-2-clause-column
add_index-requires-2-clause-column c =
    column_within c.args.catalog.now c.args.store.now.tables c.requires.relations c.args.index c.in_ok-place.place
    (sym c.place_of.ensures.place ∙ c.in_ok-place.ensures.ok_part) c.table_at.result.now c.table_at.ensures c.in_ok-column.column
    (column_found c.table_at.result.now.definition.columns c.as_ref.ensures c.place_of-2.ensures c.in_ok-column.ensures.ok_part)

pub returns-in-Err-clause-kept : goal.returns-in-Err-clause-kept
returns-in-Err-clause-kept c =
    let back = taken_back c.args.catalog.now c.args.store.now.tables c.requires.relations c.args.index c.in_ok-place.place
    (sym c.place_of.ensures.place ∙ c.in_ok-place.ensures.ok_part) c.table_at.result.now c.table_at.ensures c.in_ok-column.column
    (column_found c.table_at.result.now.definition.columns c.as_ref.ensures c.place_of-2.ensures c.in_ok-column.ensures.ok_part)
    c.copy-name.result c.add_index.new.self c.drop_index.new.self c.drop_index.result c.copy-name.ensures c.in_ok-add_index.ensures.ok
    c.in_ok-add_index.ensures.due c.drop_index.ensures.due c.drop_index.ensures.ok in
    subst (λ (schema : Schema). AreKept schema c.add_index-2.new.self) (sym back)
    (kept_by_rows c.args.catalog.now c.args.store.now c.add_index-2.new.self c.requires
    (subst (λ (rs : List StoredRows). AreOf c.args.catalog.now.tables rs) (sym (ap (λ (s : Tables). s.tables) c.in-Err.ensures.err)) c.requires.relations)
    c.add_index-2.ensures.links)

pub returns-in-Err-clause-err : goal.returns-in-Err-clause-err
returns-in-Err-clause-err c =
    let back = taken_back c.args.catalog.now c.args.store.now.tables c.requires.relations c.args.index c.in_ok-place.place
    (sym c.place_of.ensures.place ∙ c.in_ok-place.ensures.ok_part) c.table_at.result.now c.table_at.ensures c.in_ok-column.column
    (column_found c.table_at.result.now.definition.columns c.as_ref.ensures c.place_of-2.ensures c.in_ok-column.ensures.ok_part)
    c.copy-name.result c.add_index.new.self c.drop_index.new.self c.drop_index.result c.copy-name.ensures c.in_ok-add_index.ensures.ok
    c.in_ok-add_index.ensures.due c.drop_index.ensures.due c.drop_index.ensures.ok in
    λ i. state_of (back i) (c.in-Err.ensures.err i).tables

pub returns-clause-kept : goal.returns-clause-kept
returns-clause-kept c =
    let added = index_added c.args.catalog.now c.args.store.now.tables c.requires.relations c.args.index c.in_ok-place.place
    (sym c.place_of.ensures.place ∙ c.in_ok-place.ensures.ok_part) c.table_at.result.now c.table_at.ensures c.in_ok-column.column
    (column_found c.table_at.result.now.definition.columns c.as_ref.ensures c.place_of-2.ensures c.in_ok-column.ensures.ok_part)
    c.place_of.ensures.distinct c.add_index-2.new.self.tables c.in_default.ensures.ok in
    subst (λ (schema : Schema). AreKept schema c.add_index-2.new.self) (sym c.in_ok-add_index.ensures.ok)
    (kept_by_index c.args.catalog.now c.args.store.now c.add_index-2.new.self c.requires c.args.index added.1 c.add_index-2.ensures.links)

pub returns-clause-ok : goal.returns-clause-ok
returns-clause-ok c =
    let added = index_added c.args.catalog.now c.args.store.now.tables c.requires.relations c.args.index c.in_ok-place.place
    (sym c.place_of.ensures.place ∙ c.in_ok-place.ensures.ok_part) c.table_at.result.now c.table_at.ensures c.in_ok-column.column
    (column_found c.table_at.result.now.definition.columns c.as_ref.ensures c.place_of-2.ensures c.in_ok-column.ensures.ok_part)
    c.place_of.ensures.distinct c.add_index-2.new.self.tables c.in_default.ensures.ok in
    λ i. record { schema = c.in_ok-add_index.ensures.ok i; rows = added.0 i; queries = []; saved = None }

pub returns-in_err-place-clause-log : goal.returns-in_err-place-clause-log
returns-in_err-place-clause-log c = KeepsLog-refl c.args.store.now

pub returns-in_err-column-clause-log : goal.returns-in_err-column-clause-log
returns-in_err-column-clause-log c = KeepsLog-refl c.args.store.now

pub returns-in_err-add_index-clause-log : goal.returns-in_err-add_index-clause-log
returns-in_err-add_index-clause-log c = KeepsLog-refl c.args.store.now

pub returns-in-Err-clause-log : goal.returns-in-Err-clause-log
returns-in-Err-clause-log c = record { log = c.add_index-2.ensures.log; marks = c.add_index-2.ensures.marks }

pub returns-clause-log : goal.returns-clause-log
returns-clause-log c = record { log = c.add_index-2.ensures.log; marks = c.add_index-2.ensures.marks }
