use Rattle.mm_reply.proofs.DueSteps.{query_refused}
use Rattle.mm_session.proofs.bound_form.bind_query.Goals as goal

pub returns-in-Err-clause-refused : goal.returns-in-Err-clause-refused
returns-in-Err-clause-refused c = query_refused c.args.query c.args.database.now c.in-Err.refusal c.in-Err.ensures.due
