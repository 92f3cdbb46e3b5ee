-- Each table's edits are made after those of the later tables.
use Rattle.std.proofs.Common.{List, [], ◌≡◌, ◌∙◌, refl, sym, subst, arith}
use Rattle.std.specs.Prelude.{Err, Ok, OnOk}
use Rattle.mm_indexed.specs.Kept.{StoredRows}
use Rattle.std.proofs.lemmas.Result.{err_from_is_err_and}
use Rattle.mm_store.proofs.Forms.{forms_same, forms_twice}
use Rattle.mm_store.proofs.MarkLaws.{KeepsMarks-same, marks_then}
use Rattle.mm_store.specs.Edits.{AreReady}
use Rattle.mm_store.specs.Tables.{IsAt}
use Rattle.mm_tables.specs.declared.edit.Edit.{Edit}
use Rattle.mm_txn.specs.PlacedEdits.{placed}
use Rattle.mm_store.specs.Edits.{AreReady}
use Rattle.mm_tables.specs.declared.edit.Edit.{Edit}
use Rattle.mm_txn.proofs.EachApplied.{CanGo, IsAnswered, IsMade, IsAnswered, IsMade, all_left, last_can, last_due, last_have, next_can, next_gone, next_refused}
use Rattle.mm_txn.proofs.EachApplied.{own_can}
use Rattle.mm_txn.proofs.GoingBack.{empty_from_none}
use Rattle.mm_txn.proofs.changes.apply_each.Goals as goal
use Rattle.mm_txn.proofs.changes.apply_each.Goals.{In-Some, In_default}

pub deletions_may_be_made-requires : goal.deletions_may_be_made-requires
deletions_may_be_made-requires c = (own_can c.args.store.now c.args.own c.args.cascaded.items c.requires.are c.requires.back).there

pub loop-removals-init : goal.loop-removals-init
loop-removals-init c = record {
  left = all_left c.args.store.now c.args.own c.args.cascaded.items c.requires.are c.requires.back;
  form = forms_same c.args.store.now.tables;
  links = refl;
  longer = omega arith;
  marks = λ mark within. KeepsMarks-same c.args.store.now mark;
}

can : (c : In-Some) → CanGo c.loop-removals.store (placed c.in-Some.removals)
can c =
    next_can c.args.store.now c.args.own c.args.cascaded.items c.requires.are c.requires.back c.loop-removals.cascaded.items
    c.loop-removals.store c.loop-removals.invariant.left c.pop.new.self.items c.in-Some.removals c.in-Some.ensures.items

pub deletions_may_be_made-requires-in-Some : goal.deletions_may_be_made-requires-in-Some
deletions_may_be_made-requires-in-Some c = (can (goal.at.deletions_may_be_made-requires-in-Some c).In-Some).there

pub make-requires-clause-there : goal.make-requires-clause-there
make-requires-clause-there c = (can (goal.at.make-requires-clause-there c).In-Some).there

pub make-requires-clause-ready : goal.make-requires-clause-ready
make-requires-clause-ready c =
    subst (λ (es : List Edit). (stored : StoredRows) → IsAt c.loop-removals.store c.in-Some.removals.table stored → AreReady stored es)
    (sym c.as_slice.ensures) (can (goal.at.make-requires-clause-ready c).In-Some).ready

pub loop-removals-preserved-in_ok-make : goal.loop-removals-preserved-in_ok-make
loop-removals-preserved-in_ok-make c =
    let now = c.loop-removals.invariant in
    record {
      left =
          next_gone c.args.store.now c.args.own c.args.cascaded.items c.requires.are c.requires.back c.loop-removals.cascaded.items
          c.loop-removals.store now.left c.pop.new.self.items c.in-Some.removals c.in-Some.ensures.items c.deletions_may_be_made-in-Some.ensures
          c.make.new.self
          (subst (λ (es : List Edit). IsAnswered c.loop-removals.store (c.in-Some.removals.table, es) (Ok tt)) c.as_slice.ensures c.in_ok-make.ensures.due)
          (subst (λ (es : List Edit). IsMade c.loop-removals.store (c.in-Some.removals.table, es) c.make.new.self) c.as_slice.ensures c.in_ok-make.ensures.ok)
          c.make.ensures.links;
      form = forms_twice c.args.store.now.tables c.loop-removals.store.tables c.make.new.self.tables now.form c.make.ensures.form;
      links = c.make.ensures.links ∙ now.links;
      longer = omega (arith, now.longer, c.make.ensures.longer);
      marks = marks_then c.args.store.now c.loop-removals.store c.make.new.self now.longer now.marks c.make.ensures.marks;
    }

pub loop-removals-preserved : goal.loop-removals-preserved
loop-removals-preserved c =
    let now = c.loop-removals.invariant in
    record {
      left =
          next_gone c.args.store.now c.args.own c.args.cascaded.items c.requires.are c.requires.back c.loop-removals.cascaded.items
          c.loop-removals.store now.left c.pop.new.self.items c.in-Some.removals c.in-Some.ensures.items c.deletions_may_be_made-in-Some.ensures
          c.make.new.self
          (subst (λ (edits : List Edit). IsAnswered c.loop-removals.store (c.in-Some.removals.table, edits) (Ok tt)) c.as_slice.ensures
          c.in_ok-make.ensures.due)
          (subst (λ (edits : List Edit). IsMade c.loop-removals.store (c.in-Some.removals.table, edits) c.make.new.self) c.as_slice.ensures
          c.in_ok-make.ensures.ok) c.make.ensures.links;
      form = forms_twice c.args.store.now.tables c.loop-removals.store.tables c.make.new.self.tables now.form c.make.ensures.form;
      links = c.make.ensures.links ∙ now.links;
      longer = omega (arith, now.longer, c.make.ensures.longer);
      marks = marks_then c.args.store.now c.loop-removals.store c.make.new.self now.longer now.marks c.make.ensures.marks;
    }

pub returns-in_err-make-clause-due : goal.returns-in_err-make-clause-due
returns-in_err-make-clause-due c =
    let p = err_from_is_err_and c.from_residual.result c.from_residual.ensures.1 in
    rw (p.1, p.2) (next_refused c.args.store.now c.args.own c.args.cascaded.items c.requires.are c.requires.back c.loop-removals.cascaded.items
    c.loop-removals.store c.loop-removals.invariant.left c.pop.new.self.items c.in-Some.removals c.in-Some.ensures.items c.deletions_may_be_made-in-Some.ensures
    c.deletions_may_be_made.ensures c.in_err-make.field-0.0
    (subst (λ (es : List Edit). IsAnswered c.loop-removals.store (c.in-Some.removals.table, es) (Err c.in_err-make.field-0.0)) c.as_slice.ensures
    c.in_err-make.ensures.due))

pub returns-in_err-make-clause-form : goal.returns-in_err-make-clause-form
returns-in_err-make-clause-form c =
    forms_twice c.args.store.now.tables c.loop-removals.store.tables c.make.new.self.tables c.loop-removals.invariant.form c.make.ensures.form

pub returns-in_err-make-clause-marks : goal.returns-in_err-make-clause-marks
returns-in_err-make-clause-marks c =
    let now = c.loop-removals.invariant in
    marks_then c.args.store.now c.loop-removals.store c.make.new.self now.longer now.marks c.make.ensures.marks

none_left : (c : In_default) → c.loop-removals.cascaded.items ≡ []
none_left c = empty_from_none c.loop-removals.cascaded.items (omega (arith, c.in_default.ensures.cases.0, c.loop-removals.cascaded.ok))

last : (c : In_default) → CanGo c.loop-removals.store (placed c.args.own)
last c =
    last_can c.args.store.now c.args.own c.args.cascaded.items c.requires.are c.requires.back c.loop-removals.cascaded.items
    c.loop-removals.store c.loop-removals.invariant.left (none_left c)

pub make-requires-2-clause-there : goal.make-requires-2-clause-there
make-requires-2-clause-there c = (last (goal.at.make-requires-2-clause-there c).In_default).there

pub make-requires-2-clause-ready : goal.make-requires-2-clause-ready
make-requires-2-clause-ready c =
    subst (λ (es : List Edit). (stored : StoredRows) → IsAt c.loop-removals.store c.args.own.table stored → AreReady stored es)
    (sym c.as_slice-2.ensures) (last (goal.at.make-requires-2-clause-ready c).In_default).ready

pub returns-clause-due : goal.returns-clause-due
returns-clause-due c =
    last_due c.args.store.now c.args.own c.args.cascaded.items c.requires.are c.requires.back c.loop-removals.cascaded.items
    c.loop-removals.store c.loop-removals.invariant.left (none_left (goal.at.returns-clause-due c).In_default) c.make-2.result
    (subst (λ (es : List Edit). IsAnswered c.loop-removals.store (c.args.own.table, es) c.make-2.result) c.as_slice-2.ensures c.make-2.ensures.due)

pub returns-clause-ok : goal.returns-clause-ok
returns-clause-ok c =
    last_have c.args.store.now c.args.own c.args.cascaded.items c.requires.are c.requires.back c.loop-removals.cascaded.items
    c.loop-removals.store c.loop-removals.invariant.left (none_left (goal.at.returns-clause-ok c).In_default) c.make-2.new.self
    c.make-2.result
    (subst (λ (es : List Edit). OnOk c.make-2.result (IsMade c.loop-removals.store (c.args.own.table, es) c.make-2.new.self)) c.as_slice-2.ensures
    c.make-2.ensures.ok)
    c.make-2.ensures.links

pub returns-clause-form : goal.returns-clause-form
returns-clause-form c =
    forms_twice c.args.store.now.tables c.loop-removals.store.tables c.make-2.new.self.tables c.loop-removals.invariant.form c.make-2.ensures.form

pub returns-clause-marks : goal.returns-clause-marks
returns-clause-marks c =
    let now = c.loop-removals.invariant in
    marks_then c.args.store.now c.loop-removals.store c.make-2.new.self now.longer now.marks c.make-2.ensures.marks
