use Rattle.std.proofs.Common.{◌++◌, ◌∷◌, ap, subst, ◌∙◌}
use Rattle.mm_value.specs.Watched.{inner_of}
use Rattle.mm_dump.specs.Inserts.{put_text, used_after, used_bytes}
use Rattle.mm_dump.specs.RowLines.{rows_left}
use Rattle.mm_dump.proofs.RowTails.{IsBegun, begun_more, next_left}
use Rattle.mm_dump.proofs.row_lines.write_row_line.Goals as goal

pub loop-row-preserved : goal.loop-row-preserved
loop-row-preserved g c =
    let values = g.R.Row.AsRow.row in
    let rows = g.R.RowReader.rows in
    let at = c.loop-row.invariant in
    let some = c.in-Some.ensures.some in
    let table = c.args.table.now in
    let before = (inner_of c.args.writer.now).items in
    let bytes = (inner_of c.loop-row.writer).items in
    let all = values c.args.first.now ∷ rows c.args.reader.now in
    let row = values c.in-Some.row.now in
    let used = used_bytes c.loop-row.lines in
    let begun = subst (λ next. IsBegun table before bytes all used c.loop-row.rows (rows_left values next (rows c.loop-row.reader))) some.0 at.begun in
    record {
      begun = begun_more table before bytes _ all used _ c.loop-row.rows row (rows c.loop-row.reader) _ begun some.1
          (c.in_ok-add_row-2.ensures.written.written ∙ ap (λ t. bytes ++ put_text t used row) at.table)
          (c.in_ok-add_row-2.ensures.used ∙ ap (λ t. used_after t used row) at.table)
          (next_left values c.next-next-in-Some.result _ _ c.next-next-in-Some.ensures);
      table = c.in_ok-add_row-2.ensures.table ∙ at.table;
      unfailed = c.in_ok-add_row-2.ensures.written.failed;
    }
