use Rattle.mmdb_core.specs.steps.Input.{fills_to_come}
use Rattle.mmdb_core.proofs.LongLines.{Drops}
use Rattle.mmdb_core.proofs.input.Input.skip_line.Given as goal

abbrev pub invariant-loop-self : goal.invariant-loop-self
invariant-loop-self g l = Drops g.R.Read.remaining l.fn.reader l.reader l.fn.self l.self

abbrev pub decreases-loop-self : goal.decreases-loop-self
decreases-loop-self g l = fills_to_come l.self
