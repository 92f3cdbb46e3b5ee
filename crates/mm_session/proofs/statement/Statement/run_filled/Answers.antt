use Rattle.mm_session.proofs.FilledForms.{runs_as}
use Rattle.mm_session.proofs.statement.Statement.run_filled.Goals as goal

pub run_form-requires-clause-runs : goal.run_form-requires-clause-runs
run_form-requires-clause-runs g c =
    let own = c.requires.runs in
    (own.0, runs_as c.args.database.now.schema own.0 c.args.self.now c.in-Some.form own.1 c.in-Some.is)

pub returns-clause-delivers : goal.returns-clause-delivers
returns-clause-delivers g c command runs =
    c.run_form.ensures.delivers command (runs_as c.args.database.now.schema command c.args.self.now c.in-Some.form runs c.in-Some.is)
