use Rattle.std.proofs.Common.{length}
use Rattle.mm_dump.proofs.RowTails.{AreAdded}
use Rattle.mm_dump.specs.RowLines.{rows_left}
use Rattle.mm_dump.proofs.row_lines.add_row_lines.Given as goal

-- the lines so far have the rows before the next one
abbrev pub invariant-loop-next : goal.invariant-loop-next
invariant-loop-next g l =
    AreAdded l.table l.room l.fn.bytes.items l.bytes.items (g.R.RowReader.rows l.fn.reader) l.fn.row l.row
    (rows_left g.R.Row.AsRow.row l.next (g.R.RowReader.rows l.reader))

abbrev pub decreases-loop-next : goal.decreases-loop-next
decreases-loop-next g l = length (rows_left g.R.Row.AsRow.row l.next (g.R.RowReader.rows l.reader))
