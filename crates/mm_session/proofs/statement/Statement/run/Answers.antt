use Rattle.mm_reply.proofs.Delivered.{delivers_as}
use Rattle.mm_session.proofs.FilledForms.{own_filled, runs_own}
use Rattle.mm_session.proofs.FormLemmas.{runs_form}
use Rattle.mm_session.proofs.statement.Statement.run.Goals as goal

pub run_filled-requires-clause-runs : goal.run_filled-requires-clause-runs
run_filled-requires-clause-runs g c =
    let schema = c.args.database.now.schema in
    let line = c.args.self.now.line.items in
    let values = c.args.values.now in
    let own = c.in-Ok-true.ensures.filled c.in-Ok-true.field-0-test in
    ((own_filled schema line values c.fill.new.self own).filled, runs_own schema line values c.fill.new.self own)

pub returns-in-Ok-true-clause-runs : goal.returns-in-Ok-true-clause-runs
returns-in-Ok-true-clause-runs g c =
    let before = c.args.database.now in
    let line = c.args.self.now.line.items in
    let values = c.args.values.now in
    let own = c.in-Ok-true.ensures.filled c.in-Ok-true.field-0-test in
    let filled = own_filled before.schema line values c.fill.new.self own in
    delivers_as (λ outcome leads. runs_form line values own.command own.runs.ran before outcome filled leads own.read)
    (c.run_filled.ensures.delivers filled.filled (runs_own before.schema line values c.fill.new.self own))
