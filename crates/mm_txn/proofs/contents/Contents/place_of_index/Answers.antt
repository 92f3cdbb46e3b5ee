-- The index with a name, and the relation of its table.
use Rattle.std.proofs.Common.{◌≡◌, ◌<◌, true, false, cond, Some, None, is_none, length, sym, ap, subst, ◌∙◌, arith}
use Rattle.std.specs.Option.{option_copied}
use Rattle.std.proofs.lemmas.Result.{err_from_is_err_and}
use Rattle.mm_schema.specs.Indexes.{lacks_index}
use Rattle.mm_value.specs.declared.refusal.Refusal.{Refusal}
use Rattle.mm_value.specs.declared.refusal.Refusal.TheVariants.{NoSuchIndex}
use Rattle.mm_query.specs.Machine.{rows_by_index}
use Rattle.mm_query.specs.State.{State}
use Rattle.mm_txn.proofs.IndexSteps.{along_within, column_found, column_there, has_index, index_here, relation_there, rows_along, table_there}
use Rattle.mm_indexed.specs.Kept.{StoredRows}
use Rattle.mm_indexed.specs.Reads.{HasIndex}
use Rattle.mm_store.specs.Ordered.{rows_in_order}
use Rattle.mm_store.specs.Tables.{IsAt, Tables}
use Rattle.mm_txn.specs.Contents.{Holdings, state_held}
use Rattle.mm_txn.proofs.contents.Contents.place_of_index.Goals as goal

pub returns-in_err-index-clause-due : goal.returns-in_err-index-clause-due
returns-in_err-index-clause-due c =
    let seen = ap state_held c.self.view_is in
    let p = err_from_is_err_and c.from_residual.result c.from_residual.ensures.1 in
    let lacks : lacks_index c.args.name.now c.self.inside.catalog ≡ true =
    ap is_none (sym c.find_index.ensures.found ∙ ap option_copied c.in_err-index.ensures.ok_part) in
    let lacks_now : lacks_index c.args.name.now
    (state_held c.args.self.now).schema ≡ true = sym (ap (λ (s : State). lacks_index c.args.name.now s.schema) seen) ∙ lacks in
    let told : NoSuchIndex ≡ c.in_err-index.field-0.0 = grind arith in
    rw (p.1, p.2) (ap (λ b. cond b (Some NoSuchIndex) None) lacks_now ∙ ap (λ (r : Refusal). Some r) told)

pub returns-in_err-at-clause-due : goal.returns-in_err-at-clause-due
returns-in_err-at-clause-due c =
    absurd (table_there c.self.inside.catalog c.self.inside.store.tables c.self.invariant.kept.relations c.args.name.now c.in_ok-index.index.now
    (sym c.find_index.ensures.found ∙ ap option_copied c.in_ok-index.ensures.ok_part) c.find_index.ensures.in_place c.place_of.ensures.distinct
    (sym c.place_of.ensures.place ∙ c.in_err-at.ensures.ok_part))

pub returns-in_err-place-clause-due : goal.returns-in_err-place-clause-due
returns-in_err-place-clause-due c =
    absurd (index_here c.self.inside.catalog c.self.inside.store.tables c.self.invariant.kept.relations c.args.name.now c.in_ok-index.index.now
    (sym c.find_index.ensures.found ∙ ap option_copied c.in_ok-index.ensures.ok_part) c.find_index.ensures.in_place c.place_of.ensures.distinct c.in_ok-at.at
    (sym c.place_of.ensures.place ∙ c.in_ok-at.ensures.ok_part) c.table_at-table.result.now c.table_at-table.ensures
    (sym c.place_of-2.ensures ∙ c.in_err-place.ensures.ok_part))

pub returns-in_err-column-clause-due : goal.returns-in_err-column-clause-due
returns-in_err-column-clause-due c =
    absurd (column_there c.self.inside.catalog c.self.inside.store.tables c.self.invariant.kept.relations c.args.name.now c.in_ok-index.index.now
    (sym c.find_index.ensures.found ∙ ap option_copied c.in_ok-index.ensures.ok_part) c.find_index.ensures.in_place c.place_of.ensures.distinct c.in_ok-at.at
    (sym c.place_of.ensures.place ∙ c.in_ok-at.ensures.ok_part) c.table_at-table.result.now c.table_at-table.ensures
    (column_found c.table_at-table.result.now.definition.columns c.as_ref.ensures c.place_of-3.ensures c.in_err-column.ensures.ok_part))

pub returns-clause-due : goal.returns-clause-due
returns-clause-due c =
    let seen = ap state_held c.self.view_is in
    let found : lacks_index c.args.name.now c.self.inside.catalog ≡ false =
    ap is_none (sym c.find_index.ensures.found ∙ ap option_copied c.in_ok-index.ensures.ok_part) in
    let found_now : lacks_index c.args.name.now
    (state_held c.args.self.now).schema ≡ false = sym (ap (λ (s : State). lacks_index c.args.name.now s.schema) seen) ∙ found in
    ap (λ b. cond b (Some NoSuchIndex) None) found_now

pub returns-clause-there : goal.returns-clause-there
returns-clause-there c =
    let same = ap (λ (h : Holdings). h.store) c.self.view_is in
    record {
      table = subst (λ (s : Tables). c.in_ok-at.at < length s.tables) same
          (relation_there c.self.inside.catalog c.self.inside.store.tables c.self.invariant.kept.relations c.args.name.now c.in_ok-index.index.now
          (sym c.find_index.ensures.found ∙ ap option_copied c.in_ok-index.ensures.ok_part) c.find_index.ensures.in_place c.place_of.ensures.distinct
          c.in_ok-at.at
          (sym c.place_of.ensures.place ∙ c.in_ok-at.ensures.ok_part) c.table_at-table.result.now c.table_at-table.ensures);
      column = subst (λ (s : Tables). (stored : StoredRows) → IsAt s c.in_ok-at.at stored → c.in_ok-column.column < length stored.places.types) same
          (λ stored at. along_within c.self.inside.catalog c.self.inside.store.tables c.self.invariant.kept.relations c.args.name.now c.in_ok-index.index.now
          (sym c.find_index.ensures.found ∙ ap option_copied c.in_ok-index.ensures.ok_part) c.find_index.ensures.in_place c.place_of.ensures.distinct
          c.in_ok-at.at
          (sym c.place_of.ensures.place ∙ c.in_ok-at.ensures.ok_part) c.table_at-table.result.now c.table_at-table.ensures c.in_ok-place.place
          (sym c.place_of-2.ensures ∙ c.in_ok-place.ensures.ok_part) c.in_ok-column.column
          (column_found c.table_at-table.result.now.definition.columns c.as_ref.ensures c.place_of-3.ensures c.in_ok-column.ensures.ok_part) stored
          at);
      index = subst (λ (s : Tables). (stored : StoredRows) → IsAt s c.in_ok-at.at stored
          → HasIndex stored.indexes c.in_ok-place.place c.in_ok-column.column c.in_ok-index.index.now.kind) same
          (λ stored at. has_index c.self.inside.catalog c.self.inside.store.tables c.self.invariant.kept.relations c.args.name.now c.in_ok-index.index.now
          (sym c.find_index.ensures.found ∙ ap option_copied c.in_ok-index.ensures.ok_part) c.find_index.ensures.in_place c.place_of.ensures.distinct
          c.in_ok-at.at
          (sym c.place_of.ensures.place ∙ c.in_ok-at.ensures.ok_part) c.table_at-table.result.now c.table_at-table.ensures c.in_ok-place.place
          (sym c.place_of-2.ensures ∙ c.in_ok-place.ensures.ok_part) c.in_ok-column.column
          (column_found c.table_at-table.result.now.definition.columns c.as_ref.ensures c.place_of-3.ensures c.in_ok-column.ensures.ok_part) stored
          at);
    }

pub returns-clause-rows : goal.returns-clause-rows
returns-clause-rows c =
    let same = ap (λ (h : Holdings). h.store) c.self.view_is in
    subst (λ (s : Tables). (stored : StoredRows) → IsAt s c.in_ok-at.at stored
    → rows_in_order c.in_ok-column.column stored ≡ rows_by_index (state_held c.args.self.now) c.args.name.now) same
    (λ stored at.
    rows_along c.self.inside.catalog c.self.inside.store.tables c.self.invariant.kept.relations c.args.name.now c.in_ok-index.index.now
    (sym c.find_index.ensures.found ∙ ap option_copied c.in_ok-index.ensures.ok_part) c.find_index.ensures.in_place c.place_of.ensures.distinct c.in_ok-at.at
    (sym c.place_of.ensures.place ∙ c.in_ok-at.ensures.ok_part) c.table_at-table.result.now c.table_at-table.ensures c.in_ok-place.place
    (sym c.place_of-2.ensures ∙ c.in_ok-place.ensures.ok_part) c.in_ok-column.column
    (column_found c.table_at-table.result.now.definition.columns c.as_ref.ensures c.place_of-3.ensures c.in_ok-column.ensures.ok_part) stored at
    ∙ ap (λ (s : State). rows_by_index s c.args.name.now) (ap state_held c.self.view_is))
