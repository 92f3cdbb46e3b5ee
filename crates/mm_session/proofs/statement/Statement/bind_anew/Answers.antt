use Rattle.std.proofs.Common.{ℕ, List, Err, Ok, refl, subst}
use Rattle.mm_query.specs.Machine.{refused_outcome}
use Rattle.mm_session.proofs.LineReadings.{runs_filled, runs_refused}
use Rattle.mm_session.proofs.ReadyStatements.{if_err, ready_after}
use Rattle.mm_session.specs.steps.Readings.{FillsLine}
use Rattle.mm_session.proofs.statement.Statement.bind_anew.Goals as goal

pub returns-in-Ok-clause-ready : goal.returns-in-Ok-clause-ready
returns-in-Ok-clause-ready c =
    let schema = c.args.database.now.schema in
    let values = c.args.values.now in
    let command = c.in-Ok.command in
    let fills = subst (λ (line : List ℕ). FillsLine line values (Ok command)) c.as_slice.ensures.value c.in-Ok.ensures in
    ready_after schema c.args.self.now values command c.requires.ready c.requires.values fills schema c.bind_into.new.form c.bind_into.ensures.form

pub returns-in-Ok-clause-refused : goal.returns-in-Ok-clause-refused
returns-in-Ok-clause-refused c =
    let before = c.args.database.now in
    let values = c.args.values.now in
    let command = c.in-Ok.command in
    let fills = subst (λ (line : List ℕ). FillsLine line values (Ok command)) c.as_slice.ensures.value c.in-Ok.ensures in
    if_err _ _ c.bind_into.result
    (λ refusal leads. runs_filled c.args.self.now.line.items values before (refused_outcome refusal before) command fills leads)
    c.bind_into.ensures.refused

pub returns-in-Err-clause-refused : goal.returns-in-Err-clause-refused
returns-in-Err-clause-refused c =
    let before = c.args.database.now in
    let refusal = c.in-Err.refusal in
    runs_refused c.args.self.now.line.items c.args.values.now before (refused_outcome refusal before) refusal
    (subst (λ (line : List ℕ). FillsLine line c.args.values.now (Err refusal)) c.as_slice.ensures.value c.in-Err.ensures) refl
