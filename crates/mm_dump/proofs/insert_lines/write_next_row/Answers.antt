use Rattle.std.proofs.Common.{refl}
use Rattle.std.proofs.lemmas.Result.{err_from_is_err_and}
use Rattle.mm_value.specs.Written.{row_text}
use Rattle.mm_value.proofs.Writing.{Writes-then, Writes-stops}
use Rattle.mm_dump.proofs.insert_lines.write_next_row.Goals as goal

pub returns-in_err-put_all : goal.returns-in_err-put_all
returns-in_err-put_all g c =
    let p = err_from_is_err_and c.from_residual.result c.from_residual.ensures.1 in
    Writes-stops (row_text (g.R.AsRow.row c.args.row.now)) refl p.1 c.in_err-put_all.ensures

pub returns : goal.returns
returns g c = Writes-then refl c.in_ok-put_all.ensures c.write_row.ensures
