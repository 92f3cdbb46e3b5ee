use Rattle.std.proofs.Common.{Bool, List, Option, subst}
use Rattle.std.specs.Prelude.{IfSome}
use Rattle.mm_session.proofs.FormLemmas.{filling_of, forms_with, of_ok}
use Rattle.mm_session.specs.declared.bound_form.BoundForm.{BoundForm}
use Rattle.mm_session.specs.steps.Forms.{IsBoundForm}
use Rattle.mm_statement.specs.Filling.{AnswersFilling}
use Rattle.mm_session.proofs.early_form.bind_template.Goals as goal

pub returns : goal.returns
returns c =
    let schema = c.args.database.now.schema in
    let holes = c.args.holes.now.are_holes in
    let values = c.in_ok-samples.samples.items in
    let filled = c.in_ok-command.command in
    let kept = c.in_ok-ok.field-0 in
    let filling =
    filling_of holes values c.args.command filled c.fill.result c.in_ok-command.ensures.value
    (subst (λ (flags : List Bool). AnswersFilling flags values c.args.command c.fill.result) c.as_slice.ensures c.fill.ensures) in
    forms_with schema holes values c.args.command filled kept c.in_ok-samples.ensures filling.0 filling.1
    (of_ok (λ (bound : Option BoundForm). IfSome bound (IsBoundForm schema filled)) c.bind.result kept c.in_ok-ok.ensures.value c.bind.ensures.form)
