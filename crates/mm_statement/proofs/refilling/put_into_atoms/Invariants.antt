use Rattle.mm_lang.specs.Reading.{test_literals}
use Rattle.mm_statement.specs.Filling.{blank_atom}
use Rattle.mm_statement.specs.steps.Refills.{RefillsUpTo}
use Rattle.mm_statement.proofs.refilling.put_into_atoms.Given as goal

abbrev pub invariant-loop-place : goal.invariant-loop-place
invariant-loop-place l = RefillsUpTo blank_atom test_literals l.fn.refiller l.refiller l.fn.atoms l.atoms l.place
