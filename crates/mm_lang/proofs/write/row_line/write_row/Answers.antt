use Rattle.std.proofs.Common.{Err, [], ◌∷◌, ◌++◌, refl, sym, ap, ◌∙◌, append-nil}
use Rattle.std.proofs.lemmas.Result.{err_from_is_err_and}
use Rattle.mm_value.specs.Written.{row_text, values_text}
use Rattle.mm_value.proofs.Writing.{Writes-then, Writes-stops}
use Rattle.mm_lang.proofs.BufferedPieces.{buffered_then}
use Rattle.mm_lang.proofs.write.row_line.write_row.Goals as goal

pub returns-in_err-put_values : goal.returns-in_err-put_values
returns-in_err-put_values g c =
    let p = err_from_is_err_and c.from_residual-in_err-put_values.result c.from_residual-in_err-put_values.ensures.1 in
    let front = 40 ∷ values_text (g.R.AsRow.row c.args.row.now) in
    let line = buffered_then {result = Err c.in_err-put_values.field-0.0} {text = front} refl c.in_ok-put.ensures c.in_err-put_values.ensures in
    Writes-stops (41 ∷ []) (ap (λ l. l ++ 41 ∷ []) (sym (line.kept ∙ ap (λ l. l ++ front) c.new-line.ensures))) p.1 line.written

pub returns-in_err-put-2 : goal.returns-in_err-put-2
returns-in_err-put-2 g c =
    let p = err_from_is_err_and c.from_residual-in_err-put-2.result c.from_residual-in_err-put-2.ensures.1 in
    let text = row_text (g.R.AsRow.row c.args.row.now) in
    let line = buffered_then {result = Err c.in_err-put-2.field-0.0} {text = text} refl c.in_ok-put.ensures
    (buffered_then {result = Err c.in_err-put-2.field-0.0} refl c.in_ok-put_values.ensures c.in_err-put-2.ensures) in
    Writes-stops [] (sym (append-nil line.done ∙ line.kept ∙ ap (λ l. l ++ text) c.new-line.ensures)) p.1 line.written

pub returns : goal.returns
returns g c =
    let row = g.R.AsRow.row c.args.row.now in
    let line = buffered_then {text = row_text row} refl c.in_ok-put.ensures (buffered_then refl c.in_ok-put_values.ensures c.in_ok-put-2.ensures) in
    Writes-then (sym (line.kept ∙ ap (λ l. l ++ row_text row) c.new-line.ensures)) line.written c.write_out.ensures.written
