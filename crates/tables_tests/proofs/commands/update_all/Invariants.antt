use Rattle.tables_tests.specs.Samples.{AreSample}
use Rattle.tables_tests.proofs.commands.update_all.Given as goal

abbrev pub invariant-loop-row : goal.invariant-loop-row
invariant-loop-row g l = AreSample l.tables
