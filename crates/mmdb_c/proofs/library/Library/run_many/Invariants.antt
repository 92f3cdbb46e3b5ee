use Rattle.std.proofs.Common.{◌+◌, ◌≤◌, length}
use Rattle.mmdb_c.proofs.Running.{Continues}
use Rattle.mmdb_c.proofs.library.Library.run_many.Given as goal

-- the runs so far and those of the other cells together are those of all cells
abbrev pub invariant-loop-rest : goal.invariant-loop-rest
invariant-loop-rest l = record {
  continues : Continues l.number l.width l.runs l.fn.cells l.rest l.fn.self l.self;
  fewer : l.runs + length l.rest ≤ length l.fn.cells;
}

abbrev pub decreases-loop-rest : goal.decreases-loop-rest
decreases-loop-rest l = length l.rest
