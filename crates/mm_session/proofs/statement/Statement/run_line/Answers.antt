use Rattle.std.proofs.Common.{ℕ, List, subst}
use Rattle.mm_reply.proofs.Delivered.{delivers_as}
use Rattle.mm_session.proofs.LineReadings.{runs_read}
use Rattle.mm_session.proofs.ReadyStatements.{run_defines}
use Rattle.mm_session.specs.steps.Readings.{FillsLine}
use Rattle.mm_session.proofs.statement.Statement.run_line.Goals as goal

pub returns-clause-runs : goal.returns-clause-runs
returns-clause-runs g c =
    let values = c.args.values.now in
    let read = c.read_filled-read.result in
    let fills = subst (λ (line : List ℕ). FillsLine line values read) c.as_slice.ensures.value c.read_filled-read.ensures in
    delivers_as (λ outcome. runs_read c.args.self.now.line.items values c.args.database.now outcome read fills) c.respond.ensures.delivers

pub returns-clause-schema : goal.returns-clause-schema
returns-clause-schema g c other =
    let values = c.args.values.now in
    let read = c.read_filled-read.result in
    let fills = subst (λ (line : List ℕ). FillsLine line values read) c.as_slice.ensures.value c.read_filled-read.ensures in
    c.respond.ensures.schema
    (run_defines c.args.database.now.schema c.args.self.now values read c.requires.ready c.requires.values fills other)
