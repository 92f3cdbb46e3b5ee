use Rattle.std.proofs.Common.{[]}
use Rattle.mmdb_core.specs.steps.Input.{Advances, fills_to_come}
use Rattle.mmdb_core.proofs.input.Input.find_line.Given as goal

abbrev pub invariant-loop-next : goal.invariant-loop-next
invariant-loop-next g l = Advances g.R.Read.remaining l.fn.reader l.reader l.fn.self l.self []

abbrev pub decreases-loop-next : goal.decreases-loop-next
decreases-loop-next g l = fills_to_come l.self
