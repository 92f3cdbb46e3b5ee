use Rattle.std.proofs.Common.{sym, subst}
use Rattle.std.specs.List.{All}
use Rattle.mm_session.specs.steps.Forms.{IsReady}
use Rattle.mm_session.proofs.session.Session.statement_columns.Goals as goal

pub columns_at-requires : goal.columns_at-requires
columns_at-requires c =
    let schema = c.self.inside.database.schema in (schema, subst (All (IsReady schema)) (sym c.deref.ensures.value) c.self.invariant.0)
