use Rattle.std.proofs.Common.{◌∷◌, ◌++◌, refl}
use Rattle.std.proofs.lemmas.Result.{err_from_is_err_and}
use Rattle.mm_value.specs.Written.{row_text}
use Rattle.mm_value.proofs.Writing.{Writes-then, Writes-stops}
use Rattle.mm_dump.proofs.insert_lines.write_insert.Goals as goal

pub returns-in_err-put_all : goal.returns-in_err-put_all
returns-in_err-put_all g c =
    let p = err_from_is_err_and c.from_residual.result c.from_residual.ensures.1 in
    Writes-stops (c.args.table.now ++ 32 ∷ row_text (g.R.AsRow.row c.args.row.now)) refl p.1 c.in_err-put_all.ensures

pub returns-in_err-put_all-2 : goal.returns-in_err-put_all-2
returns-in_err-put_all-2 g c =
    let p = err_from_is_err_and c.from_residual-in_err-put_all-2.result c.from_residual-in_err-put_all-2.ensures.1 in
    let row = row_text (g.R.AsRow.row c.args.row.now) in
    Writes-then refl c.in_ok-put_all.ensures (Writes-stops (32 ∷ row) refl p.1 c.in_err-put_all-2.ensures)

pub returns-in_err-put_all-3 : goal.returns-in_err-put_all-3
returns-in_err-put_all-3 g c =
    let p = err_from_is_err_and c.from_residual-in_err-put_all-3.result c.from_residual-in_err-put_all-3.ensures.1 in
    let row = row_text (g.R.AsRow.row c.args.row.now) in
    Writes-then refl c.in_ok-put_all.ensures
    (Writes-then refl c.in_ok-put_all-2.ensures (Writes-stops row refl p.1 c.in_err-put_all-3.ensures))

pub returns : goal.returns
returns g c =
    Writes-then refl c.in_ok-put_all.ensures
    (Writes-then refl c.in_ok-put_all-2.ensures (Writes-then refl c.in_ok-put_all-3.ensures c.write_row.ensures))
