use Rattle.std.specs.List.{All}
use Rattle.mm_partition.specs.Places.{IsLive}
use Rattle.tables_tests.proofs.samples.is_in_use.Given as goal

-- the remaining references are of rows in use
abbrev pub invariant-loop-found : goal.invariant-loop-found
invariant-loop-found l = All (IsLive l.rows.places) l.found-iterator
