use Rattle.std.proofs.Common.{sym, ap, ◌∙◌}
use Rattle.mm_session.specs.Loading.{refusal_in}
use Rattle.mm_session.proofs.LoadedScripts.{loaded_all, loaded_more, loaded_none, stopped}
use Rattle.mm_session.proofs.session.Session.load.Goals as goal

pub loop-line-init : goal.loop-line-init
loop-line-init c = loaded_none c.args.script.now c.args.self.now

pub returns-in-Some-refusal_in : goal.returns-in-Some-refusal_in
returns-in-Some-refusal_in c =
    stopped c.args.script.now c.loop-line.rest.now c.in-Some.behind.now c.in-Some.line.now c.loop-line.lines c.args.self.now c.loop-line.self
    c.execute.new.self c.loop-line.invariant c.in-Some.ensures.some.0 c.execute.ensures c.in-Some-refusal_in.refusal
    (ap refusal_in (sym c.reply.ensures) ∙ sym c.refusal_in.ensures ∙ c.in-Some-refusal_in.is)

pub loop-line-smaller : goal.loop-line-smaller
loop-line-smaller c = c.in-Some.ensures.some.1

pub loop-line-preserved : goal.loop-line-preserved
loop-line-preserved c =
    loaded_more c.args.script.now c.loop-line.rest.now c.in-Some.behind.now c.in-Some.line.now c.loop-line.lines c.args.self.now c.loop-line.self
    c.execute.new.self c.loop-line.invariant c.in-Some.ensures.some.0 c.execute.ensures
    (ap refusal_in (sym c.reply.ensures) ∙ sym c.refusal_in.ensures ∙ c.in_default-refusal_in.is) c.in-Some.ensures.some.1

pub returns : goal.returns
returns c =
    loaded_all c.args.script.now c.loop-line.rest.now c.loop-line.lines c.args.self.now c.loop-line.self c.loop-line.invariant
    c.in_default.ensures.none
