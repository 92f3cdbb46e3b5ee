use Rattle.std.proofs.Common.{subst, sym}
use Rattle.std.proofs.lemmas.Result.{err_from_is_err_and}
use Rattle.mmdb_core.specs.steps.Input.{Comes, StopsInLine}
use Rattle.mmdb_core.proofs.Inputs.{at-fault, long-then, stops-then}
use Rattle.mmdb_core.proofs.input.Input.next.Goals as goal

pub returns-in_err-skip_line-clause-stops : goal.returns-in_err-skip_line-clause-stops
returns-in_err-skip_line-clause-stops g c =
    let p = err_from_is_err_and c.from_residual-in_err-skip_line.result c.from_residual-in_err-skip_line.ensures.1 in
    at-fault (StopsInLine g.R.Read.remaining c.args.reader.now c.skip_line.new.reader c.args.self.now c.skip_line.new.self)
    c.from_residual-in_err-skip_line.result
    c.in_err-skip_line.field-0.0 p.0 p.1 p.2 (stops-then c.find_line.ensures.advances c.in_err-skip_line.ensures.stops)

pub returns-in_ok-skip_line-clause-comes : goal.returns-in_ok-skip_line-clause-comes
returns-in_ok-skip_line-clause-comes g c =
    subst (Comes g.R.Read.remaining c.args.reader.now c.skip_line.new.reader c.args.self.now c.skip_line.new.self) (sym c.in-Long.is)
    (long-then c.skip_line.new.reader c.skip_line.new.self c.find_line.ensures.advances c.in_ok-skip_line.ensures.gone)
