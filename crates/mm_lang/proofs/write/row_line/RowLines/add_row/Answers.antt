use Rattle.std.proofs.Common.{Err, [], ◌∷◌, ◌++◌, refl}
use Rattle.std.proofs.lemmas.Result.{err_from_is_err_and}
use Rattle.mm_value.specs.Written.{values_text}
use Rattle.mm_lang.proofs.BufferedPieces.{buffered_stops, buffered_then, line_pieces}
use Rattle.mm_lang.proofs.write.row_line.RowLines.add_row.Goals as goal

pub returns-in_err-put : goal.returns-in_err-put
returns-in_err-put g c =
    let p = err_from_is_err_and c.from_residual.result c.from_residual.ensures.1 in
    let row = g.R.AsRow.row c.args.row.now in
    buffered_stops (values_text row ++ 41 ∷ 10 ∷ []) (line_pieces row) p.1 c.in_err-put.ensures

pub returns-in_err-put_values : goal.returns-in_err-put_values
returns-in_err-put_values g c =
    let p = err_from_is_err_and c.from_residual-in_err-put_values.result c.from_residual-in_err-put_values.ensures.1 in
    buffered_stops (41 ∷ 10 ∷ []) (line_pieces (g.R.AsRow.row c.args.row.now)) p.1
    (buffered_then {result = Err c.in_err-put_values.field-0.0} refl c.in_ok-put.ensures c.in_err-put_values.ensures)

pub returns : goal.returns
returns g c =
    buffered_then (line_pieces (g.R.AsRow.row c.args.row.now)) (buffered_then refl c.in_ok-put.ensures c.in_ok-put_values.ensures) c.put-2.ensures
