use Rattle.mmdb_core.specs.steps.Input.{bytes_to_come}
use Rattle.mmdb_core.proofs.Runs.{Running}
use Rattle.mmdb_core.proofs.run_script.run.Given as goal

abbrev pub invariant-loop-session : goal.invariant-loop-session
invariant-loop-session g l =
    Running g.R.Read.remaining g.W.Write.contents l.fn.limits l.fn.reader l.reader l.fn.writer l.writer l.input l.session.state l.totals

abbrev pub decreases-loop-session : goal.decreases-loop-session
decreases-loop-session g l = bytes_to_come l.input
