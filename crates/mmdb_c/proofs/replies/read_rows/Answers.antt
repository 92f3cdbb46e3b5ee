use Rattle.std.proofs.Common.{◌+◌, ◌<◌, IfSome, arith, ap, drop, length, length-append, subst, sym, take, ◌∙◌}
use Rattle.std.proofs.lemmas.Option.{slice_get_past, slice_get_within}
use Rattle.mm_session.specs.Replies.{reply_lent}
use Rattle.mmdb_c.specs.Replies.{StartsWith, rows_of, values_of}
use Rattle.mmdb_c.specs.steps.Reading.{WritesCells}
use Rattle.mmdb_c.proofs.RowsRead.{starts_more, values_more}
use Rattle.mmdb_c.proofs.replies.read_rows.Goals as goal

pub loop-row-preserved : goal.loop-row-preserved
loop-row-preserved c =
    let rows = rows_of (reply_lent c.args.reply.now) in let first = c.args.first in let count = c.loop-row.count in
    let row = c.in-Some.row.now in let at = (c.in-Some.ensures).some in let was = c.loop-row.invariant in
    let values = values_of (take count (drop first rows)) in let after = c.set_cells.new.cells in
    let more = values_more rows first count row at in
    let wrote : WritesCells (length values) row c.loop-row.cells after = subst (λ n. WritesCells n row c.loop-row.cells after) was.place c.set_cells.ensures in
    record {
      place = ap (λ n. n + length row) was.place ∙ sym (length-append values row) ∙ ap length (sym more);
      read = subst (λ vs. StartsWith vs c.args.cells.now after) (sym more) (starts_more values row c.args.cells.now c.loop-row.cells after was.read wrote);
      room = omega (arith, was.room, c.if-cells-place.false, c.set_cells.auto.cells);
      there = omega (arith, slice_get_within rows (first + count) row at);
      number = omega (arith, (c.in-Some.ensures).next);
    }

pub returns-in_default : goal.returns-in_default
returns-in_default c =
    let rows = rows_of (reply_lent c.args.reply.now) in let next = c.args.first + c.loop-row.count in let was = c.loop-row.invariant in
    let values = values_of (take c.loop-row.count (drop c.args.first rows)) in
    record {
      there = was.there;
      read = was.read;
      most = subst (λ found. IfSome found (λ row. length c.args.cells.now < length values + length row))
          (sym (slice_get_past rows next (c.in_default.ensures).none)) tt;
    }
