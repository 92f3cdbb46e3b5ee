use Rattle.std.proofs.Common.{◌≡◌, ◌++◌, ◌≤◌, ℕ, List, get_or, length, map, set, ap, ap₂, ◌∙◌, sym, subst, arith}
use Rattle.std.proofs.lemmas.List.{length-append, take_at}
use Rattle.std.proofs.lemmas.Result.{on_err_weaker, on_ok_weaker}
use Rattle.std.specs.Prelude.{take}
use Rattle.mm_base.specs.Bases.{references_of, rows_now}
use Rattle.mm_base.proofs.InBases.{lawful_at_mark-kept}
use Rattle.mm_row_order.specs.Refs.{Slots}
use Rattle.mm_schema.specs.Refused.{first_refusal}
use Rattle.mm_store.proofs.Answering.{answers_due}
use Rattle.mm_store.proofs.EditRows.{conditions_kept, rows_made-kept}
use Rattle.mm_store.proofs.StagedBases.{KeepsTaken, KeepsTaken-reserved}
use Rattle.mm_tables.specs.Commands.{IsCommand}
use Rattle.mm_tables.specs.Tables.{Stored, key_in, logged, no_slots, slots_in}
use Rattle.mm_tables.specs.declared.log_record.LogRecord.{LogRecord}
use Rattle.mm_tables.proofs.InTables.{key_same}
use Rattle.mm_tables.proofs.Slots.{either_way}
use Rattle.mm_value.specs.declared.values.Value.{Value}
use Rattle.mm_store.proofs.store.staging.make_edits.Goals as goal
use Rattle.mm_store.proofs.store.staging.make_edits.Goals.{After-make, After-reserve_for}

-- there is more capacity, and nothing else has changed
kept : (c : After-reserve_for) → KeepsTaken c.args.table c.args.base.now c.reserve_for.new.self
kept c =
    KeepsTaken-reserved c.args.table c.args.base.now c.reserve_for.new.self c.reserve_for.ensures.state
    (ap (λ (s : Stored). s.log) c.reserve_for.ensures.rest) c.reserve_for.ensures.shapes c.reserve_for.ensures.others
    (ap references_of c.reserve_for.ensures.links)

slots_same : (c : After-reserve_for) → slots_in c.reserve_for.new.self.stored.tables c.args.table ≡ slots_in c.args.base.now.stored.tables c.args.table
slots_same c = ap (λ (s : List Slots). get_or s c.args.table no_slots) c.reserve_for.ensures.state

pub make-requires-clause-lawful : goal.make-requires-clause-lawful
make-requires-clause-lawful c =
    let all = kept (goal.at.make-requires-clause-lawful c).After-reserve_for in
    lawful_at_mark-kept c.args.base.now.stored c.reserve_for.new.self.stored c.mark-mark.result all.shapes
    (all.marks c.mark-mark.result (omega (arith, c.mark-mark.ensures.mark))) c.mark-mark.ensures.lawful

pub make-requires-clause-command : goal.make-requires-clause-command
make-requires-clause-command c =
    let d = (goal.at.make-requires-clause-command c).After-reserve_for in
    let old = c.args.base.now.stored.tables in
    let now = c.reserve_for.new.self.stored.tables in
    subst (λ (k : ℕ). IsCommand k c.args.edits.now (slots_in now c.args.table)) (sym (key_same old now c.args.table c.reserve_for.ensures.shapes))
    (subst (λ (s : Slots). IsCommand (key_in old c.args.table) c.args.edits.now s) (sym (slots_same d)) c.requires.ready)

pub returns-clause-due : goal.returns-clause-due
returns-clause-due c =
    let d = (goal.at.returns-clause-due c).After-reserve_for in
    answers_due c.make.result _
    (c.make.ensures.due ∙ ap first_refusal (conditions_kept c.args.table c.args.base.now c.reserve_for.new.self (kept d) (slots_same d) c.args.edits.now))

pub returns-clause-rows : goal.returns-clause-rows
returns-clause-rows c =
    let d = (goal.at.returns-clause-rows c).After-reserve_for in
    let all = kept d in
    let set_rows : set (rows_now c.reserve_for.new.self.stored) c.args.table _ ≡ set (rows_now c.args.base.now.stored) c.args.table _ =
    ap₂ (λ (tables : List (List (List Value))) (rows : List (List Value)). set tables c.args.table rows) all.rows
    (rows_made-kept c.args.table c.args.base.now c.reserve_for.new.self all (slots_same d) c.args.edits.now) in
    on_ok_weaker c.make.result (λ was. was ∙ set_rows) c.make.ensures.rows

-- the records since the mark
short_log : (c : After-reserve_for) → take c.mark-mark.result c.reserve_for.new.self.stored.log ≡ c.args.base.now.stored.log
short_log c =
    ap (take c.mark-mark.result) (kept c).log.1 ∙ take_at c.args.base.now.stored.log (kept c).log.0 c.mark-mark.result (sym c.mark-mark.ensures.mark)

pub returns-clause-kept : goal.returns-clause-kept
returns-clause-kept c =
    on_err_weaker c.make.result (λ was. was ∙ short_log (goal.at.returns-clause-kept c).After-reserve_for) c.make.ensures.old_log

pub returns-clause-longer : goal.returns-clause-longer
returns-clause-longer c =
    let d = (goal.at.returns-clause-longer c).After-reserve_for in
    let now : List LogRecord = c.reserve_for.new.self.stored.log in
    let made : List LogRecord = map (logged c.args.table) c.args.edits.now in
    either_way c.make.result (c.make.new.self.stored.log ≡ now ++ made) (c.make.new.self.stored.log ≡ take c.mark-mark.result now)
    (length c.args.base.now.stored.log ≤ length c.make.new.self.stored.log) c.make.ensures.log c.make.ensures.old_log
    (λ ok.
    omega (
      arith,
      ap (λ (rs : List LogRecord). length rs) ok,
      length-append now made,
      ap (λ (rs : List LogRecord). length rs) (kept d).log.1,
      length-append c.args.base.now.stored.log (kept d).log.0,
    ))
    (λ failed. omega (arith, ap (λ (rs : List LogRecord). length rs) (failed ∙ short_log d)))
