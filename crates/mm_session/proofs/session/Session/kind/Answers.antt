use Rattle.std.proofs.Common.{sym, subst}
use Rattle.std.specs.List.{All}
use Rattle.mm_session.specs.steps.Forms.{IsReady}
use Rattle.mm_session.proofs.session.Session.kind.Goals as goal

pub kind-requires : goal.kind-requires
kind-requires c =
    let schema = c.self.inside.database.schema in (schema, subst (All (IsReady schema)) (sym c.deref.ensures.value) c.self.invariant.0)
