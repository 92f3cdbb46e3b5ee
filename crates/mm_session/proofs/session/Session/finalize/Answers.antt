use Rattle.std.proofs.Common.{map, subst}
use Rattle.mm_session.proofs.ReadyStatements.{finalized}
use Rattle.mm_session.specs.Session.{Finalizes, SessionState}
use Rattle.mm_session.specs.steps.Places.{line_in}
use Rattle.mm_session.proofs.session.Session.finalize.Goals as goal

pub returns : goal.returns
returns c =
    let inside = c.self.inside in
    let new = c.remove.new.statements.items in
    let after : SessionState = record { state = inside.database; lines = map line_in new; reply = inside.last; changes = inside.changes } in
    subst (λ (old : SessionState). Finalizes c.args.statement old after c.remove.result)
    c.self.view_is
    (finalized c.args.statement inside.database inside.last inside.changes inside.statements.items new c.remove.result
    c.remove.ensures.ok c.remove.ensures.stands c.remove.ensures.err c.remove.ensures.kept)
