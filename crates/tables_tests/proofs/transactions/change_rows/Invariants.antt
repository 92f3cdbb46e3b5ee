use Rattle.tables_tests.specs.Samples.{AreSample}
use Rattle.tables_tests.proofs.transactions.change_rows.Given as goal

abbrev pub invariant-loop : goal.invariant-loop
invariant-loop g l = AreSample l.tables
