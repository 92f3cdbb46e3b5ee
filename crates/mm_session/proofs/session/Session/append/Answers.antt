use Rattle.std.proofs.Common.{map, Ok, refl, subst}
use Rattle.mm_session.proofs.ReadyStatements.{stored_outcome}
use Rattle.mm_session.specs.Appending.{Appends}
use Rattle.mm_session.specs.Session.{SessionState}
use Rattle.mm_session.specs.steps.Places.{line_in}
use Rattle.mm_session.proofs.session.Session.append.Goals as goal

pub returns : goal.returns
returns c =
    let new : SessionState = record {
      state = c.append_rows.new.database;
      lines = map line_in c.self.inside.statements.items;
      reply = c.append_rows.new.sink;
      changes = c.count_changes.new.changes;
    } in
    subst (λ (old : SessionState). Appends c.args.table.now c.args.columns.now old new (Ok tt)) c.self.view_is (
      c.in_ok-append_rows.ensures.columns,
      record {
        appends = stored_outcome c.in_ok-append_rows.ensures.ok;
        lines = refl;
        changes = c.count_changes.ensures;
      },
    )
