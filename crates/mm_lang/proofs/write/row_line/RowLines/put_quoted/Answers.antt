use Rattle.std.proofs.Common.{Err, [], ◌∷◌, ◌++◌, refl}
use Rattle.std.proofs.lemmas.Result.{err_from_is_err_and}
use Rattle.mm_value.specs.Literal.{doubled}
use Rattle.mm_lang.proofs.BufferedPieces.{buffered_stops, buffered_then}
use Rattle.mm_lang.proofs.write.row_line.RowLines.put_quoted.Goals as goal

pub returns-in_err-put : goal.returns-in_err-put
returns-in_err-put g c =
    let p = err_from_is_err_and c.from_residual.result c.from_residual.ensures.1 in
    buffered_stops (doubled c.args.text.now ++ 39 ∷ []) refl p.1 c.in_err-put.ensures

pub returns-in_err-put_doubled : goal.returns-in_err-put_doubled
returns-in_err-put_doubled g c =
    let p = err_from_is_err_and c.from_residual-in_err-put_doubled.result c.from_residual-in_err-put_doubled.ensures.1 in
    buffered_stops (39 ∷ []) refl p.1
    (buffered_then {result = Err c.in_err-put_doubled.field-0.0} refl c.in_ok-put.ensures c.in_err-put_doubled.ensures)

pub returns : goal.returns
returns g c = buffered_then refl (buffered_then refl c.in_ok-put.ensures c.in_ok-put_doubled.ensures) c.put-2.ensures
