use Rattle.std.proofs.Common.{take}
use Rattle.mmdb_c.specs.Cells.{StandFor}
use Rattle.mmdb_c.proofs.cell.read_cells.Given as goal

-- the values so far are those of the cells so far
abbrev pub invariant-loop-cell : goal.invariant-loop-cell
invariant-loop-cell l = StandFor (take l.cell-index l.cells) l.values.items
