use Rattle.std.proofs.Common.{length}
use Rattle.tables_tests.proofs.ready.+all_apart.Given as goal

abbrev pub decreases-all_apart : goal.decreases-all_apart
decreases-all_apart l = length l.edits.now
