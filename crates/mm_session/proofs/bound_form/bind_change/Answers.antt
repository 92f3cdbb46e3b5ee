use Rattle.mm_reply.proofs.DueSteps.{change_refused}
use Rattle.mm_session.proofs.bound_form.bind_change.Goals as goal

pub returns-in-Err-clause-refused : goal.returns-in-Err-clause-refused
returns-in-Err-clause-refused c = change_refused c.args.mutation c.args.database.now c.in-Err.refusal c.in-Err.ensures.due
