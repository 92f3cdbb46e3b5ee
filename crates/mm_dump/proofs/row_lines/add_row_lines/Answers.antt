use Rattle.std.proofs.Common.{◌∷◌, subst}
use Rattle.mm_dump.specs.RowLines.{rows_left}
use Rattle.mm_dump.proofs.RowTails.{AreAdded, added_more}
use Rattle.mm_dump.proofs.row_lines.add_row_lines.Goals as goal

pub loop-next-preserved : goal.loop-next-preserved
loop-next-preserved g c =
    let values = g.R.Row.AsRow.row in
    let rows = g.R.RowReader.rows in
    let table = c.args.table.now in
    let before = c.args.bytes.now.items in
    let bytes = c.loop-next.bytes.items in
    let all = rows c.args.reader.now in
    let left = rows_left values c.in-Some-add_row_line.line.next (rows c.add_row_line.new.reader) in
    let added = subst (λ next. AreAdded table c.args.room before bytes all c.args.row.now c.loop-next.row (rows_left values next (rows c.loop-next.reader)))
    c.in-Some.is c.loop-next.invariant in
    added_more table c.args.room before bytes c.add_row_line.new.bytes.items all c.args.row.now c.loop-next.row c.in-Some-add_row_line.line.rows
    (values c.in-Some.first ∷ rows c.loop-next.reader) left added c.in-Some-add_row_line.ensures.rows c.in-Some-add_row_line.ensures.some
    c.add_row_line.ensures.room
