use Rattle.mm_session.proofs.FilledForms.{refilled_filled, refilled_ready}
use Rattle.mm_session.proofs.statement.Statement.refill.Goals as goal

pub returns-then-refill-clause-ready : goal.returns-then-refill-clause-ready
returns-then-refill-clause-ready c schema ready =
    refilled_ready schema c.args.self.now ready c.in-Some.form c.refill.new.form c.in-Some.is c.refill.new.rows (c.refill.ensures.kept c.if-refill.true)

pub returns-then-refill-clause-filled : goal.returns-then-refill-clause-filled
returns-then-refill-clause-filled c done schema ready =
    refilled_filled schema c.args.self.now ready c.in-Some.form c.refill.new.form c.in-Some.is c.refill.new.rows c.args.values.now
    (c.refill.ensures.filled c.if-refill.true)
