use Rattle.std.proofs.Common.{◌≡◌, true, rules, subst}
use Rattle.std.proofs.lemmas.Result.{err_from_is_err_and}
use Rattle.mm_lang.specs.Lines.{HasNoFeed}
use Rattle.mmdb_core.specs.steps.Feeds.{EndsLine}
use Rattle.mmdb_core.specs.steps.Input.{StopsInLine}
use Rattle.mmdb_core.proofs.Inputs.{at-fault}
use Rattle.mmdb_core.proofs.LongLines.{Drops-feed, Drops-last, Drops-more, Drops-stops}
use Rattle.mmdb_core.proofs.input.Input.skip_line.Goals as goal

pub returns-in_err-fill-clause-stops : goal.returns-in_err-fill-clause-stops
returns-in_err-fill-clause-stops g c =
    let p = err_from_is_err_and c.from_residual.result c.from_residual.ensures.1 in
    at-fault (StopsInLine g.R.Read.remaining c.args.reader.now c.fill.new.reader c.args.self.now c.fill.new.self) c.from_residual.result c.in_err-fill.field-0.0
    p.0 p.1 p.2
    (Drops-stops c.in_err-fill.field-0.0 c.loop-self.invariant c.fill.ensures.advances c.in_err-fill.ensures.same c.in_err-fill.ensures.fault)

pub returns-clause-gone : goal.returns-clause-gone
returns-clause-gone g c =
    let ended : c.loop-self.self.is_ended ≡ true = search rules in
    Drops-last c.loop-self.invariant ended

pub returns-in-Some-clause-gone : goal.returns-in-Some-clause-gone
returns-in-Some-clause-gone g c =
    Drops-feed c.loop-self.invariant c.fill.ensures.advances c.in-Some.len (subst (λ bytes. EndsLine bytes c.in-Some.len) c.taken.ensures c.in-Some.ensures)
    c.skip.ensures.window c.skip.ensures.still c.skip.ensures.ended

pub loop-self-preserved : goal.loop-self-preserved
loop-self-preserved g c =
    Drops-more c.loop-self.invariant c.fill.ensures.advances (subst HasNoFeed c.taken.ensures c.in_default.ensures)
    c.clear-in-loop-self.ensures.window c.clear-in-loop-self.ensures.still c.clear-in-loop-self.ensures.ended
