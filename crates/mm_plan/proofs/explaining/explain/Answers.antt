use Rattle.std.proofs.Common.{◌≡◌, IfOk, Result, Ok, Err, List, sym, ◌∙◌, subst}
use Rattle.std.specs.Prelude.{Some, slice_get}
use Rattle.mm_plan.proofs.Explained.{all_there, lines_are, tables_stand}
use Rattle.mm_plan.proofs.explaining.explain.Goals as goal
use Rattle.mm_plan.specs.Naming.{AreNamesThere, named_steps}
use Rattle.mm_plan.specs.declared.step.Step.{Step}
use Rattle.mm_query.specs.declared.atom.Atom.{Atom}
use Rattle.mm_query.specs.declared.bound_query.FieldPlace.{FieldPlace}
use Rattle.mm_query.specs.declared.plan_line.PlanLine.{PlanLine}
use Rattle.mm_query.specs.declared.query.FromItem.{FromItem}

pub plan_steps-requires : goal.plan_steps-requires
plan_steps-requires c =
    tables_stand c.args.catalog.now c.args.view.now.store c.args.query.now c.args.tables.now c.requires.kept c.requires.within c.requires.tables

pub lines-requires-clause-there : goal.lines-requires-clause-there
lines-requires-clause-there c = λ place own at.
    let schema = c.args.catalog.now in
    let store = c.args.view.now.store in
    let query = c.args.query.now in
    let tables = c.args.tables.now in
    let steps = c.in_ok-steps.steps in
    let there = all_there schema store query tables c.requires.kept c.requires.within c.requires.tables steps c.in_ok-steps.ensures.allowed place own
    (subst (λ (ss : List Step). slice_get ss place ≡ Some own) c.as_slice-3.ensures at) in
    subst (λ (from : List FromItem). AreNamesThere (record { schema = schema; from = from; tables = tables }) c.as_slice-2.result.now place own)
    (sym c.as_slice.ensures)
    (subst (λ (atoms : List (Atom FieldPlace)). AreNamesThere (record { schema = schema; from = query.from; tables = tables }) atoms place own)
    (sym c.as_slice-2.ensures) there)

if_lines : {E : Type 0} (result : Result (List PlanLine) E) (named : List PlanLine) (Holds : List PlanLine → Type 0) → IfOk result (λ lines. lines ≡ named)
    → Holds named → IfOk result Holds
if_lines (Ok lines) named Holds is holds = subst Holds (sym is) holds
if_lines (Err e) named Holds is holds = tt

pub returns : goal.returns
returns c =
    let schema = c.args.catalog.now in
    let store = c.args.view.now.store in
    let query = c.args.query.now in
    let tables = c.args.tables.now in
    if_lines c.lines.result
    (named_steps (record { schema = schema; from = c.as_slice.result.now; tables = tables }) c.as_slice-2.result.now c.as_slice-3.result.now) _ c.lines.ensures
    (λ written due is.
    ((λ i. named_steps (record { schema = schema; from = c.as_slice.ensures i; tables = tables }) (c.as_slice-2.ensures i)
    ((c.as_slice-3.ensures ∙ c.in_ok-steps.ensures.steps) i))
    ∙ lines_are schema store query tables c.requires.kept c.requires.within c.requires.tables c.have_one_key.ensures written due is))
