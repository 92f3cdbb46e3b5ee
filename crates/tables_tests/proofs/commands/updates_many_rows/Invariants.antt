use Rattle.tables_tests.specs.Samples.{AreSample}
use Rattle.tables_tests.proofs.commands.updates_many_rows.Given as goal

abbrev pub invariant-loop-key : goal.invariant-loop-key
invariant-loop-key g l = AreSample l.tables
