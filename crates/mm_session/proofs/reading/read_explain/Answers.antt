use Rattle.std.proofs.Common.{◌≡◌, Bool, List, length, sym, ap, subst, ◌∙◌}
use Rattle.mm_value.specs.declared.values.Value.{Value}
use Rattle.mm_query.specs.declared.command.Command.{Command}
use Rattle.mm_lang.specs.Reading.{first_fault, literals_of}
use Rattle.mm_lang.specs.Templates.{holes_of}
use Rattle.mm_statement.specs.Filling.{AnswersFilling}
use Rattle.mm_session.proofs.KindLemmas.{explained_literals}
use Rattle.mm_session.proofs.LineReadings.{template_within}
use Rattle.mm_session.proofs.PlanReadings.{asked_query, explain_filled}
use Rattle.mm_session.proofs.reading.read_explain.Goals as goal

pub fill-requires-clause-flags : goal.fill-requires-clause-flags
fill-requires-clause-flags c =
    let command = c.in_ok-command.field-0.command in
    ap length (c.as_slice.ensures.value ∙ c.in_ok-command.ensures.1)
    ∙ (c.templates_read_as_lines.ensures.places c.args.line.now command c.in_ok-command.ensures.0
    ∙ sym (ap (λ (d : Command). length (literals_of d)) c.explained.ensures ∙ ap length (explained_literals command)))

pub fill-requires-clause-within : goal.fill-requires-clause-within
fill-requires-clause-within c =
    let command = c.in_ok-command.field-0.command in
    ap (λ (d : Command). first_fault (literals_of d)) c.explained.ensures
    ∙ (ap first_fault (explained_literals command) ∙ template_within c.args.line.now command c.in_ok-command.ensures.0)

pub returns : goal.returns
returns c =
    let line = c.args.line.now in
    let values = c.args.values.now in
    let command = c.in_ok-command.field-0.command in
    let query = asked_query line c.requires.reads.0 command c.requires.reads.1 c.in_ok-command.ensures.0 c.requires.reads.2 in
    let holes : c.as_slice.result.now ≡ holes_of line = c.as_slice.ensures.value ∙ c.in_ok-command.ensures.1 in
    explain_filled line values command query.0 c.fill.result c.in_ok-command.ensures.0 query.1
    (subst (λ (d : Command). AnswersFilling (holes_of line) values d c.fill.result) c.explained.ensures
    (subst (λ (flags : List Bool). AnswersFilling flags values c.explained.result c.fill.result) holes
    (subst (λ (given : List Value). AnswersFilling c.as_slice.result.now given c.explained.result c.fill.result) c.in_ok-values.ensures c.fill.ensures)))
