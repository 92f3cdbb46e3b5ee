-- The lists follow the rows, and each mark stays. If a change is refused, rows and lists are restored.
use Rattle.std.proofs.Common.{◌≡◌, ◌≤◌, ℕ, List, [], ◌∷◌, OnOk, Ok, Err, length, map, sym, ap, subst, ◌∙◌, arith}
use Rattle.std.specs.Prelude.{Result}
use Rattle.std.specs.Result.{result_and}
use Rattle.mm_value.specs.declared.refusal.Refusal.{Refusal}
use Rattle.mm_delta.specs.Edited.{before_at}
use Rattle.mm_indexed.specs.Kept.{StoredRows}
use Rattle.mm_indexed.specs.RowLists.{rows_of}
use Rattle.mm_store.proofs.MarkLaws.{KeepsMarks-then}
use Rattle.mm_store.specs.Marks.{KeepsMarks, mark_of}
use Rattle.mm_store.specs.Tables.{Tables}
use Rattle.mm_standing.specs.State.{Lists, count_now}
use Rattle.mm_standing.specs.declared.change.RowChange.{RowChange}
use Rattle.store_tests.proofs.PlainStores.{plain_formed}
use Rattle.standing_tests.specs.Cases.{rows_edited}
use Rattle.standing_tests.proofs.CaseSteps.{case_still, mark_still}
use Rattle.standing_tests.proofs.ListCounts.{counts_still, fit_made, older_made, same_at, same_now, undone_made}
use Rattle.standing_tests.proofs.NumberRows.{numbers_edited}
use Rattle.standing_tests.proofs.TableRows.{before_same, rows_made}
use Rattle.standing_tests.proofs.steps.make_edit.Goals as goal
use Rattle.standing_tests.proofs.steps.make_edit.Goals.{After-discard}

-- If both results are successes, so is each.
first_ok : (r s : Result Unit Refusal) (u : Unit) {P : Type 0} → result_and r s ≡ Ok u → OnOk r P → P
first_ok (Ok x) s u e p = p
first_ok (Err x) s u e p = let no : Err x ≡ Ok u = e in cc

second_ok : (r s : Result Unit Refusal) (u : Unit) {P : Type 0} → result_and r s ≡ Ok u → OnOk s P → P
second_ok (Ok x) (Ok y) u e p = p
second_ok (Ok x) (Err y) u e p = let no : Err y ≡ Ok u = e in cc
second_ok (Err x) s u e p = let no : Err x ≡ Ok u = e in cc

-- The marks of the earlier log.
marks_back : (c : After-discard) → (mark : ℕ) → mark ≤ mark_of c.args.store.now → KeepsMarks c.args.store.now c.revert.new.self mark
marks_back c mark within =
    KeepsMarks-then c.args.store.now c.make.new.self c.revert.new.self mark (c.make.ensures.marks mark within)
    (c.revert.ensures.marks mark (subst (λ n. mark ≤ n) (sym c.mark-mark.ensures.mark) within))

rows_back : (c : After-discard) → map (λ (s : StoredRows). rows_of s) c.revert.new.self.tables ≡ map (λ (s : StoredRows). rows_of s) c.args.store.now.tables
rows_back c =
    c.revert.ensures.rows
    ∙ ((c.make.ensures.marks c.mark-mark.result (omega (arith, c.mark-mark.ensures.mark))).rows ∙ c.mark-mark.ensures.rows)

pub revert-requires : goal.revert-requires
revert-requires c =
    record { mark = (c.make.ensures.marks c.mark-mark.result (omega (arith, c.mark-mark.ensures.mark))).kept c.mark-mark.ensures.is }

pub returns-in-Err-clause-case : goal.returns-in-Err-clause-case
returns-in-Err-clause-case c =
    let store = c.args.store.now in
    let lists = c.args.standing.now in
    let mid = c.make.new.self in
    let new = c.revert.new.self in
    let left = c.discard.new.self in
    let first = c.make.ensures.form.size in
    let second = c.revert.ensures.form.size in
    let queries = ap (λ (l : Lists). l.queries) c.discard.ensures.rest ∙ c.prepare-prepared.ensures.queries in
    case_still store new lists left queries c.requires.case (omega arith)
    (plain_formed mid new c.revert.ensures.form (plain_formed store mid c.make.ensures.form c.requires.case.plain))
    (before_at store) (before_same store new (rows_back c)) c.requires.case.typed
    (counts_still (count_now lists) (count_now left) (before_at store) lists.queries left.queries queries
    (λ list row. same_now c.prepare-prepared.new.standing left c.discard.ensures.counts list row
    ∙ same_now lists c.prepare-prepared.new.standing c.prepare-prepared.ensures.counts list row)
    c.requires.case.fits)
    (ap (λ (l : Lists). l.prepared) c.discard.ensures.rest)

pub returns-in-Err-clause-marks : goal.returns-in-Err-clause-marks
returns-in-Err-clause-marks c = λ commands changes mark.
    let lists = c.args.standing.now in
    let log = ap (λ (l : Lists). l.log) c.discard.ensures.rest ∙ c.prepare-prepared.ensures.log in
    mark_still c.args.store.now c.revert.new.self lists c.discard.new.self
    (ap (λ (l : Lists). l.queries) c.discard.ensures.rest ∙ c.prepare-prepared.ensures.queries) commands changes
    (marks_back c commands mark.commands_there.within)
    (subst (λ (cs : List RowChange). changes ≤ length cs) (sym log) mark.changes_there)
    (λ list row. same_at c.prepare-prepared.new.standing c.discard.new.self c.discard.ensures.counts (ap (λ (l : Lists). l.log) c.discard.ensures.rest) changes
    list row
    ∙ same_at lists c.prepare-prepared.new.standing c.prepare-prepared.ensures.counts c.prepare-prepared.ensures.log changes list row)
    mark

pub returns-clause-case : goal.returns-clause-case
returns-clause-case c =
    let store = c.args.store.now in
    let lists = c.args.standing.now in
    let new = c.make.new.self in
    let mid = c.prepare-prepared.new.standing in
    let left = c.apply_prepared.new.self in
    let rows = rows_edited store c.args.table (c.args.edit ∷ []) in
    let size = c.make.ensures.form.size in
    case_still store new lists left (c.apply_prepared.ensures.queries ∙ c.prepare-prepared.ensures.queries) c.requires.case
    (omega arith) (plain_formed store new c.make.ensures.form c.requires.case.plain) rows
    (rows_made store new c.args.table c.requires.there (c.args.edit ∷ [])
    (first_ok c.make.result c.prepare-prepared.result c.in_default.field-0 (sym c.in_default.ensures) c.make.ensures.ok))
    (numbers_edited store c.args.table (c.args.edit ∷ []) c.requires.case.plain c.requires.case.typed c.requires.fit)
    (fit_made lists mid left c.apply_prepared.ensures.made rows
    (second_ok c.make.result c.prepare-prepared.result c.in_default.field-0 (sym c.in_default.ensures) c.prepare-prepared.ensures.ok)
    c.apply_prepared.ensures.queries)
    c.apply_prepared.ensures.prepared

pub returns-clause-marks : goal.returns-clause-marks
returns-clause-marks c = λ commands changes mark.
    let lists = c.args.standing.now in
    let mid = c.prepare-prepared.new.standing in
    let left = c.apply_prepared.new.self in
    let older = older_made lists mid left c.apply_prepared.ensures.made c.prepare-prepared.ensures.log in
    let changes_there = mark.changes_there in
    mark_still c.args.store.now c.make.new.self lists left (c.apply_prepared.ensures.queries ∙ c.prepare-prepared.ensures.queries) commands changes
    (c.make.ensures.marks commands mark.commands_there.within) (omega arith)
    (undone_made lists mid left c.apply_prepared.ensures.made c.prepare-prepared.ensures.counts c.prepare-prepared.ensures.log changes changes_there)
    mark
