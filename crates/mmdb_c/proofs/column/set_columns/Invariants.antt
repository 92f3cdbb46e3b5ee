use Rattle.std.proofs.Common.{◌≡◌, ◌++◌, drop, map, take}
use Rattle.mmdb_c.specs.Columns.{column_cell}
use Rattle.mmdb_c.proofs.column.set_columns.Given as goal

-- the columns so far were written, and the other cells are as they were
abbrev pub invariant-loop-i : goal.invariant-loop-i
invariant-loop-i l = l.cells ≡ map (λ column. column_cell column.now) (take l.i l.columns) ++ drop l.i l.fn.cells
