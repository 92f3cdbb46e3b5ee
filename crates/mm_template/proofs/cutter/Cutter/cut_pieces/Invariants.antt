use Rattle.std.proofs.Common.{false, length}
use Rattle.mm_template.specs.steps.Progress.{IsCutTo}
use Rattle.mm_template.proofs.cutter.Cutter.cut_pieces.Given as goal

abbrev pub invariant-loop-rest : goal.invariant-loop-rest
invariant-loop-rest l = IsCutTo l.line l.left l.rest l.self.template l.self.values false

abbrev pub decreases-loop-rest : goal.decreases-loop-rest
decreases-loop-rest l = length l.rest
