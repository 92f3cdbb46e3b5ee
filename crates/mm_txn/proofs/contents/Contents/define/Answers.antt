-- The lists stay when tables and indexes change, and still fit when a standing query is dropped.
use Rattle.std.proofs.Common.{◌≡◌, ap, subst, ◌∙◌}
use Rattle.mm_schema.specs.Indexes.{drop_index_conditions, index_conditions}
use Rattle.mm_schema.specs.Refused.{first_refusal}
use Rattle.mm_schema.specs.Schema.{table_conditions}
use Rattle.mm_query.specs.Machine.{after_definition, is_of_index}
use Rattle.mm_query.specs.declared.command.Definition.TheVariants as define
use Rattle.mm_txn.specs.Contents.{Holdings}
use Rattle.mm_txn.specs.Kept.{state_of}
use Rattle.mm_txn.specs.Saved.{KeepsLog}
use Rattle.mm_txn.proofs.Resting.{rest_by_index, rest_by_no_index, rest_by_table, rest_still}
use Rattle.mm_txn.proofs.contents.Contents.define.Goals as goal

pub invariant_of-self : goal.invariant_of-self
invariant_of-self c =
    let schema = c.self.inside.catalog in
    let store = c.self.inside.store in
    let lists = c.self.inside.standing in
    let rest = c.self.invariant in
    rest_still schema store lists rest c.add_table.new.catalog c.add_table.new.store c.add_table.ensures.kept c.add_table.result
    (first_refusal (table_conditions c.in-Table.definition schema))
    (state_of c.add_table.new.catalog c.add_table.new.store.tables ≡ after_definition (define.Table c.in-Table.definition) (state_of schema store.tables))
    c.add_table.ensures.due
    (rest_by_table schema store lists rest c.add_table.new.catalog c.add_table.new.store c.add_table.ensures.kept c.in-Table.definition)
    c.add_table.ensures.ok c.add_table.ensures.err

pub invariant_of-self-in-Index : goal.invariant_of-self-in-Index
invariant_of-self-in-Index c =
    let schema = c.self-in-Index.inside.catalog in
    let store = c.self-in-Index.inside.store in
    let lists = c.self-in-Index.inside.standing in
    let rest = c.self-in-Index.invariant in
    rest_still schema store lists rest c.add_index.new.catalog c.add_index.new.store c.add_index.ensures.kept c.add_index.result
    (first_refusal (index_conditions c.in-Index.index schema))
    (state_of c.add_index.new.catalog c.add_index.new.store.tables ≡ after_definition (define.Index c.in-Index.index) (state_of schema store.tables))
    c.add_index.ensures.due
    (rest_by_index schema store lists rest c.add_index.new.catalog c.add_index.new.store c.add_index.ensures.kept c.in-Index.index)
    c.add_index.ensures.ok c.add_index.ensures.err

pub invariant_of-self-in-DropIndex : goal.invariant_of-self-in-DropIndex
invariant_of-self-in-DropIndex c =
    let schema = c.self-in-DropIndex.inside.catalog in
    let store = c.self-in-DropIndex.inside.store in
    let lists = c.self-in-DropIndex.inside.standing in
    let rest = c.self-in-DropIndex.invariant in
    rest_still schema store lists rest c.drop_index.new.catalog c.drop_index.new.store c.drop_index.ensures.kept c.drop_index.result
    (first_refusal (drop_index_conditions c.in-DropIndex.name schema))
    (state_of c.drop_index.new.catalog c.drop_index.new.store.tables ≡ after_definition (define.DropIndex c.in-DropIndex.name) (state_of schema store.tables))
    c.drop_index.ensures.due
    (rest_by_no_index schema store lists rest c.drop_index.new.catalog c.drop_index.new.store c.drop_index.ensures.kept c.in-DropIndex.name)
    c.drop_index.ensures.ok c.drop_index.ensures.err

-- ---- the logs are empty if a change concerns more than an index

pub add_table-requires-clause-log : goal.add_table-requires-clause-log
add_table-requires-clause-log c = ap (λ (h : Holdings). h.store.stored.log) c.self.view_is ∙ (c.requires.settled (ap is_of_index c.in-Table.is)).edits

pub drop_table-requires : goal.drop_table-requires
drop_table-requires c = c.requires.settled (ap is_of_index c.in-DropTable.is)

pub watch-requires-clause-settled : goal.watch-requires-clause-settled
watch-requires-clause-settled c = c.requires.settled (ap is_of_index c.in-Watch.is)

pub unwatch-requires : goal.unwatch-requires
unwatch-requires c = c.requires.settled (ap is_of_index c.in-Unwatch.is)

pub returns-in-Table-clause-settled : goal.returns-in-Table-clause-settled
returns-in-Table-clause-settled c = λ none. record {
  edits = c.add_table.ensures.log;
  log = ap (λ (h : Holdings). h.lists.log) c.self.view_is ∙ (c.requires.settled none).log;
}

pub returns-in-Index-clause-log : goal.returns-in-Index-clause-log
returns-in-Index-clause-log c = λ of_index. subst (λ (h : Holdings). KeepsLog h.store c.add_index.new.store) c.self-in-Index.view_is c.add_index.ensures.log

pub returns-in-DropIndex-clause-log : goal.returns-in-DropIndex-clause-log
returns-in-DropIndex-clause-log c = λ of_index.
    subst (λ (h : Holdings). KeepsLog h.store c.drop_index.new.store) c.self-in-DropIndex.view_is c.drop_index.ensures.log
