use Rattle.std.proofs.Common.{refl}
use Rattle.std.proofs.lemmas.Result.{err_from_is_err_and}
use Rattle.mm_value.specs.Views.{value_of}
use Rattle.mm_value.specs.Written.{value_text}
use Rattle.mm_lang.proofs.BufferedPieces.{buffered_stops, buffered_then}
use Rattle.mm_lang.proofs.write.row_line.RowLines.put_next.Goals as goal

pub returns-in_err-put : goal.returns-in_err-put
returns-in_err-put g c =
    let p = err_from_is_err_and c.from_residual.result c.from_residual.ensures.1 in
    buffered_stops (value_text (value_of c.args.value)) refl p.1 c.in_err-put.ensures

pub returns : goal.returns
returns g c = buffered_then refl c.in_ok-put.ensures c.put_value.ensures
