use Rattle.tables_tests.specs.Samples.{AreSample}
use Rattle.tables_tests.proofs.transactions.reverts_and_settles.Given as goal

abbrev pub invariant-loop : goal.invariant-loop
invariant-loop g l = AreSample l.tables
