-- The index is dropped from the catalog and from the relation of its table.
use Rattle.std.proofs.Common.{◌≡◌, [], cond, Some, None, inl, sym, ap, subst, ◌∙◌, arith}
use Rattle.std.proofs.lemmas.Result.{err_from_is_err_and}
use Rattle.mm_schema.specs.Schema.{Schema}
use Rattle.mm_schema.proofs.IndexLemmas.{lacks_nowhere}
use Rattle.mm_value.specs.declared.refusal.Refusal.{Refusal}
use Rattle.mm_value.specs.declared.refusal.Refusal.TheVariants.{NoSuchIndex}
use Rattle.mm_plan.specs.Kept.{AreKept}
use Rattle.mm_txn.proofs.GoingBack.{KeepsLog-refl}
use Rattle.mm_txn.proofs.IndexSteps.{index_dropped, index_not_missing, index_there, with_index_there}
use Rattle.mm_txn.proofs.KeptReferences.{kept_by_no_index}
use Rattle.mm_txn.proofs.definitions.drop_index.Goals as goal

pub returns-in_err-table-clause-due : goal.returns-in_err-table-clause-due
returns-in_err-table-clause-due c =
    let p = err_from_is_err_and c.from_residual.result c.from_residual.ensures.1 in
    let lacks = lacks_nowhere c.args.name.now c.args.catalog.now (sym c.place_with_index.ensures.place ∙ c.in_err-table.ensures.ok_part) in
    let told : NoSuchIndex ≡ c.in_err-table.field-0.0 = grind arith in
    rw (p.1, p.2) (inl (ap (λ b. cond b (Some NoSuchIndex) None) lacks ∙ ap (λ (r : Refusal). Some r) told))

pub returns-in_err-index-clause-due : goal.returns-in_err-index-clause-due
returns-in_err-index-clause-due c =
    absurd (index_not_missing c.args.catalog.now c.args.store.now.tables c.requires.relations c.args.name.now c.in_ok-table.table
    (sym c.place_with_index.ensures.place ∙ c.in_ok-table.ensures.ok_part) c.table_at.result.now c.table_at.ensures
    (sym c.place_of.ensures ∙ c.in_err-index.ensures.ok_part))

pub drop_index-requires-2-clause-there : goal.drop_index-requires-2-clause-there
drop_index-requires-2-clause-there c =
    with_index_there c.args.catalog.now c.args.store.now.tables c.requires.relations c.args.name.now c.in_ok-table.table
    (sym c.place_with_index.ensures.place ∙ c.in_ok-table.ensures.ok_part) c.table_at.result.now c.table_at.ensures

pub drop_index-requires-2-clause-index : goal.drop_index-requires-2-clause-index
drop_index-requires-2-clause-index c =
    index_there c.args.catalog.now c.args.store.now.tables c.requires.relations c.args.name.now c.in_ok-table.table
    (sym c.place_with_index.ensures.place ∙ c.in_ok-table.ensures.ok_part) c.table_at.result.now c.table_at.ensures c.in_ok-index.index
    (sym c.place_of.ensures ∙ c.in_ok-index.ensures.ok_part)

pub returns-clause-kept : goal.returns-clause-kept
returns-clause-kept c =
    let dropped = index_dropped c.args.catalog.now c.args.store.now.tables c.requires.relations c.args.name.now c.in_ok-table.table
    (sym c.place_with_index.ensures.place ∙ c.in_ok-table.ensures.ok_part) c.table_at.result.now c.table_at.ensures
    c.place_with_index.ensures.distinct c.in_ok-index.index (sym c.place_of.ensures ∙ c.in_ok-index.ensures.ok_part) c.drop_index-2.new.self.tables
    c.drop_index-2.ensures.tables in
    subst (λ (schema : Schema). AreKept schema c.drop_index-2.new.self) (sym c.in_ok-drop_index.ensures.ok)
    (kept_by_no_index c.args.catalog.now c.args.store.now c.drop_index-2.new.self c.requires c.args.name.now dropped.1 c.drop_index-2.ensures.links)

pub returns-clause-ok : goal.returns-clause-ok
returns-clause-ok c =
    let dropped = index_dropped c.args.catalog.now c.args.store.now.tables c.requires.relations c.args.name.now c.in_ok-table.table
    (sym c.place_with_index.ensures.place ∙ c.in_ok-table.ensures.ok_part) c.table_at.result.now c.table_at.ensures
    c.place_with_index.ensures.distinct c.in_ok-index.index (sym c.place_of.ensures ∙ c.in_ok-index.ensures.ok_part) c.drop_index-2.new.self.tables
    c.drop_index-2.ensures.tables in
    λ i. record { schema = c.in_ok-drop_index.ensures.ok i; rows = dropped.0 i; queries = []; saved = None }

pub returns-in_err-table-clause-log : goal.returns-in_err-table-clause-log
returns-in_err-table-clause-log c = KeepsLog-refl c.args.store.now

pub returns-in_err-index-clause-log : goal.returns-in_err-index-clause-log
returns-in_err-index-clause-log c = KeepsLog-refl c.args.store.now

pub returns-in_err-drop_index-clause-log : goal.returns-in_err-drop_index-clause-log
returns-in_err-drop_index-clause-log c = KeepsLog-refl c.args.store.now

pub returns-clause-log : goal.returns-clause-log
returns-clause-log c = record { log = c.drop_index-2.ensures.log; marks = c.drop_index-2.ensures.marks }
