use Rattle.mm_statement.specs.Filling.{blank_assignment}
use Rattle.mm_statement.specs.steps.Refills.{RefillsUpTo, source_literals}
use Rattle.mm_statement.proofs.refilling.put_into_assignments.Given as goal

abbrev pub invariant-loop-place : goal.invariant-loop-place
invariant-loop-place l = RefillsUpTo blank_assignment source_literals l.fn.refiller l.refiller l.fn.assignments l.assignments l.place
