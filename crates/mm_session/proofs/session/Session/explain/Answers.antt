use Rattle.std.proofs.Common.{List, Option, map, Ok, refl, subst}
use Rattle.mm_session.proofs.ReadyStatements.{stored_outcome}
use Rattle.mm_session.specs.Session.{ExplainsStatement, SessionState}
use Rattle.mm_session.specs.Statements.{ExplainsFound, line_at}
use Rattle.mm_session.specs.declared.statement.Statement.{Statement}
use Rattle.mm_session.specs.steps.Places.{line_in}
use Rattle.mm_session.proofs.session.Session.explain.Goals as goal

pub returns : goal.returns
returns c =
    let inside = c.self.inside in
    let new : SessionState = record {
      state = c.explain_at.new.database;
      lines = map line_in inside.statements.items;
      reply = c.explain_at.new.sink;
      changes = inside.changes;
    } in
    subst (λ (old : SessionState). ExplainsStatement c.args.statement c.args.values.now old new (Ok tt)) c.self.view_is
    (record {
      explains = subst (λ (items : List (Option Statement)). ExplainsFound (line_at c.args.statement (map line_in items)) c.args.values.now
          inside.database (record { reply = c.explain_at.new.sink; state = c.explain_at.new.database })) c.deref.ensures.value
          (stored_outcome c.in_ok-explain_at.ensures.ok);
      lines = refl;
      changes = refl;
    })
