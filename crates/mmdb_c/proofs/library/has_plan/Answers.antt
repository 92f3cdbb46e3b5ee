use Rattle.std.proofs.Common.{◌≡◌, true, sym, ◌∙◌}
use Rattle.mm_session.specs.Kinds.{has_plan}
use Rattle.mmdb_c.proofs.Plans.{has_plan_at}
use Rattle.mmdb_c.proofs.library.has_plan.Goals as goal

pub returns-in-Some-clause-some : goal.returns-in-Some-clause-some
returns-in-Some-clause-some c = λ told.
    has_plan_at c.args.number c.args.session.now c.in-Some.kind c.in-Some.ensures (sym c.has_plan.ensures ∙ told)
