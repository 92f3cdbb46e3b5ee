use Rattle.std.proofs.Common.{map, Ok, subst}
use Rattle.mm_session.proofs.ReadyStatements.{stored_outcome}
use Rattle.mm_session.specs.Session.{RunsStatement, SessionState}
use Rattle.mm_session.specs.steps.Places.{line_in}
use Rattle.mm_session.proofs.session.Session.run.Goals as goal

pub returns : goal.returns
returns c =
    let new : SessionState = record {
      state = c.run_at.new.database;
      lines = map line_in c.run_at.new.statements.items;
      reply = c.run_at.new.sink;
      changes = c.count_changes.new.changes;
    } in
    subst (λ (old : SessionState). RunsStatement c.args.statement c.args.values.now old new (Ok tt)) c.self.view_is (record {
      runs = stored_outcome c.in_ok-run_at.ensures.ok;
      lines = c.in_ok-run_at.ensures.lines;
      changes = c.count_changes.ensures;
    })
