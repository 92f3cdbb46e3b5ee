use Rattle.std.proofs.Common.{◌≡◌, ◌∷◌, false, length}
use Rattle.mm_value.specs.Watched.{has_failed, inner_of}
use Rattle.mm_dump.specs.Inserts.{table_of, used_bytes}
use Rattle.mm_dump.specs.RowLines.{rows_left}
use Rattle.mm_dump.proofs.RowTails.{IsBegun}
use Rattle.mm_dump.proofs.row_lines.write_row_line.Given as goal

-- the line has these rows so far, and the text of the others remains
abbrev pub invariant-loop-row : goal.invariant-loop-row
invariant-loop-row g l =
    let values = g.R.Row.AsRow.row in
    let rows = g.R.RowReader.rows in
    record {
      begun : IsBegun l.fn.table (inner_of l.fn.writer).items (inner_of l.writer).items (values l.fn.first ∷ rows l.fn.reader) (used_bytes l.lines) l.rows
          (rows_left values l.next (rows l.reader));
      table : table_of l.lines ≡ l.fn.table;
      unfailed : has_failed l.writer ≡ false;
    }

abbrev pub decreases-loop-row : goal.decreases-loop-row
decreases-loop-row g l = length (rows_left g.R.Row.AsRow.row l.next (g.R.RowReader.rows l.reader))
