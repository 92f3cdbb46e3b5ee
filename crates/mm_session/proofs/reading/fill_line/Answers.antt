use Rattle.std.proofs.Common.{◌≡◌, Bool, List, length, ap, subst, ◌∙◌}
use Rattle.mm_value.specs.declared.values.Value.{Value}
use Rattle.mm_lang.specs.Templates.{holes_of}
use Rattle.mm_statement.specs.Filling.{AnswersFilling}
use Rattle.mm_session.proofs.LineReadings.{fills_filled, template_within}
use Rattle.mm_session.proofs.reading.fill_line.Goals as goal

pub fill-requires-clause-flags : goal.fill-requires-clause-flags
fill-requires-clause-flags c =
    ap length (c.as_slice.ensures.value ∙ c.in_ok-command.ensures.1)
    ∙ c.templates_read_as_lines.ensures.places c.args.line.now c.in_ok-command.field-0.command c.in_ok-command.ensures.0

pub fill-requires-clause-within : goal.fill-requires-clause-within
fill-requires-clause-within c = template_within c.args.line.now c.in_ok-command.field-0.command c.in_ok-command.ensures.0

pub returns : goal.returns
returns c =
    let line = c.args.line.now in
    let command = c.in_ok-command.field-0.command in
    let holes : c.as_slice.result.now ≡ holes_of line = c.as_slice.ensures.value ∙ c.in_ok-command.ensures.1 in
    fills_filled line command c.args.values.now c.in_ok-command.ensures.0 c.requires.values c.fill.result
    (c.templates_read_as_lines.ensures.places line command c.in_ok-command.ensures.0) c.requires.holes
    (subst (λ (flags : List Bool). AnswersFilling flags c.args.values.now command c.fill.result) holes
    (subst (λ (values : List Value). AnswersFilling c.as_slice.result.now values command c.fill.result) c.in_ok-values.ensures c.fill.ensures))
