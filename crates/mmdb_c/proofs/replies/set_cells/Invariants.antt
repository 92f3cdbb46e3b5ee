use Rattle.std.proofs.Common.{take}
use Rattle.mmdb_c.specs.steps.Reading.{WritesCells}
use Rattle.mmdb_c.proofs.replies.set_cells.Given as goal

-- the values so far were written
abbrev pub invariant-loop-i : goal.invariant-loop-i
invariant-loop-i l = WritesCells l.place (take l.i l.row) l.fn.cells l.cells
