use Rattle.std.proofs.Common.{map, subst}
use Rattle.mm_session.proofs.ReadyStatements.{stored_outcome}
use Rattle.mm_session.specs.Session.{AnswersLine, SessionState}
use Rattle.mm_session.specs.steps.Places.{line_in}
use Rattle.mm_session.proofs.session.Session.execute.Goals as goal

pub returns : goal.returns
returns c =
    let answered = stored_outcome c.execute_line.ensures.delivers in
    let new : SessionState = record {
      state = c.execute_line.new.database;
      lines = map line_in c.execute_line.new.statements.items;
      reply = c.execute_line.new.sink;
      changes = c.count_changes.new.changes;
    } in
    subst (λ (old : SessionState). AnswersLine c.args.line.now old new) c.self.view_is (record {
      choice = answered.0;
      outcome = answered.1;
      lines = c.execute_line.ensures.lines;
      changes = c.count_changes.ensures;
    })
