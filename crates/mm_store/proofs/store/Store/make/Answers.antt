use Rattle.std.proofs.Common.{ℕ, List, length, ap, ◌∙◌, sym, subst, arith}
use Rattle.std.specs.Prelude.{OnErr}
use Rattle.std.proofs.lemmas.Result.{on_err_weaker, on_ok_weaker}
use Rattle.mm_base.proofs.Keeping.{keys_from_shapes}
use Rattle.mm_indexed.specs.Index.{EachTurns}
use Rattle.mm_indexed.specs.Kept.{StoredRows}
use Rattle.mm_row_order.specs.Refs.{Slots}
use Rattle.mm_schema.specs.Refused.{AnswersDue, Condition, first_refusal}
use Rattle.mm_store.specs.Edits.{AreReady, conditions_of}
use Rattle.mm_store.specs.Marks.{KeepsMarks}
use Rattle.mm_store.specs.Tables.{HasRows, IsAt, KeepsRows, SameForm, Tables, Turns, tables_of}
use Rattle.mm_store.proofs.EditRows.{conditions_made, rows_after-made}
use Rattle.mm_store.proofs.ListedTables.{forms_from_shapes, has_rows, key_there, length-tables, marks_kept, rows_kept}
use Rattle.mm_store.proofs.ListedTables.{slots_at, table_there, turned, turns}
use Rattle.mm_tables.specs.Commands.{IsCommand}
use Rattle.mm_tables.specs.Tables.{key_in, slots_in}
use Rattle.mm_tables.proofs.InTables.{size_from_shapes}
use Rattle.mm_tables.proofs.Slots.{both_ok}
use Rattle.mm_value.specs.declared.values.Value.{Value}
use Rattle.mm_store.proofs.store.Store.make.Goals as goal
use Rattle.mm_store.proofs.store.Store.make.Goals.{After-rows_are_listed}

-- the table
there : (c : After-rows_are_listed) → (stored : StoredRows) × IsAt (tables_of c.self.inside.base) c.args.table stored
there c =
    table_there c.self.inside.base c.args.table
    (omega (arith, c.requires.there, ap (λ (s : Tables). length s.tables) c.self.view_is, length-tables c.self.inside.base))

ready : (c : After-rows_are_listed) → AreReady (there c).0 c.args.edits.now
ready c = c.requires.ready (there c).0 (subst (λ (s : Tables). IsAt s c.args.table (there c).0) c.self.view_is (there c).1)

command : (c : After-rows_are_listed)
    → IsCommand (key_in c.self.inside.base.stored.tables c.args.table) c.args.edits.now (slots_in c.self.inside.base.stored.tables c.args.table)
command c =
    let b = c.self.inside.base in
    subst (λ (k : ℕ). IsCommand k c.args.edits.now (slots_in b.stored.tables c.args.table)) (key_there b c.args.table (there c).0 (there c).1)
    (subst (λ (s : Slots). IsCommand (there c).0.key c.args.edits.now s) (slots_at b c.args.table (there c).0 (there c).1) (ready c))

pub make_edits-result-requires-clause-ready : goal.make_edits-result-requires-clause-ready
make_edits-result-requires-clause-ready c = command (goal.at.make_edits-result-requires-clause-ready c).After-rows_are_listed

pub returns-clause-due : goal.returns-clause-due
returns-clause-due c stored at =
    let old = c.self.inside.base in
    let d = (goal.at.returns-clause-due c).After-rows_are_listed in
    let inside : IsAt (tables_of old) c.args.table stored = subst (λ (s : Tables). IsAt s c.args.table stored) (sym c.self.view_is) at in
    subst (λ (s : Tables). AnswersDue (first_refusal (conditions_of s c.args.table stored c.args.edits.now)) c.make_edits-result.result) c.self.view_is
    (subst (λ (cs : List Condition). AnswersDue (first_refusal cs) c.make_edits-result.result)
    (sym (conditions_made old c.rows_are_listed.ensures c.args.table stored inside c.args.edits.now (command d).fits)) c.make_edits-result.ensures.due)

pub returns-clause-ok : goal.returns-clause-ok
returns-clause-ok c =
    let old = c.self.inside.base in
    let new = c.make_edits-result.new.base in
    let d = (goal.at.returns-clause-ok c).After-rows_are_listed in
    let t : ℕ = c.args.table in
    let size = size_from_shapes old.stored.tables new.stored.tables c.make_edits-result.ensures.shapes in
    on_ok_weaker c.make_edits-result.result
    (λ both stored at.
    let inside : IsAt (tables_of old) t stored = subst (λ (s : Tables). IsAt s t stored) (sym c.self.view_is) at in (
      turned old new size t stored inside both.1,
      subst (λ (s : Tables). Turns s t (turned old new size t stored inside both.1) (tables_of new)) c.self.view_is
          (turns old new size t stored inside both.1),
      subst (λ (rows : List (List Value)). HasRows stored rows (turned old new size t stored inside both.1))
          (sym (rows_after-made old c.rows_are_listed.ensures t stored inside c.args.edits.now (command d).fits))
          (has_rows old new size t stored inside both.1 _ c.make_edits-result.ensures.shapes c.rows_are_listed-2.ensures both.0),
    ))
    (both_ok c.make_edits-result.result _ _ c.make_edits-result.ensures.rows c.make_edits-result.ensures.others)

pub returns-clause-form : goal.returns-clause-form
returns-clause-form c =
    subst (λ (s : Tables). EachTurns SameForm s.tables (tables_of c.make_edits-result.new.base).tables) c.self.view_is
    (forms_from_shapes c.self.inside.base c.make_edits-result.new.base c.make_edits-result.ensures.shapes)

pub returns-clause-err : goal.returns-clause-err
returns-clause-err c =
    subst (λ (s : Tables). OnErr c.make_edits-result.result (KeepsRows s (tables_of c.make_edits-result.new.base))) c.self.view_is
    (on_err_weaker c.make_edits-result.result
    (λ same.
    rows_kept c.self.inside.base c.make_edits-result.new.base c.make_edits-result.ensures.shapes
    (c.rows_are_listed-2.ensures ∙ (same ∙ sym c.rows_are_listed.ensures)))
    c.make_edits-result.ensures.err)

pub returns-clause-marks : goal.returns-clause-marks
returns-clause-marks c mark within =
    let old = c.self.inside.base in
    let new = c.make_edits-result.new.base in
    subst (λ (s : Tables). KeepsMarks s (tables_of new) mark) c.self.view_is
    (marks_kept old new mark (keys_from_shapes old.stored.tables new.stored.tables c.make_edits-result.ensures.shapes)
    (c.make_edits-result.ensures.marks mark (omega (arith, within, ap (λ (s : Tables). length s.stored.log) c.self.view_is)))
    (λ low. omega (arith, low, c.make_edits-result.ensures.longer)))
