use Rattle.std.proofs.Common.{Err, [], ◌∷◌, ◌++◌, map, refl}
use Rattle.std.proofs.lemmas.Result.{err_from_is_err_and}
use Rattle.mm_value.specs.Written.{values_text}
use Rattle.mm_value.proofs.Writing.{Writes-then, Writes-stops}
use Rattle.mm_value.proofs.printed.write_row.Goals as goal

pub returns-in_err-put_all : goal.returns-in_err-put_all
returns-in_err-put_all g c =
    let p = err_from_is_err_and c.from_residual.result c.from_residual.ensures.1 in
    Writes-stops (values_text (map g.V.AsValue.value c.args.values.now) ++ 41 ∷ []) refl p.1 c.in_err-put_all.ensures

pub returns-in_err-write_values : goal.returns-in_err-write_values
returns-in_err-write_values g c =
    let p = err_from_is_err_and c.from_residual-in_err-write_values.result c.from_residual-in_err-write_values.ensures.1 in
    Writes-stops (41 ∷ []) refl p.1
    (Writes-then {result = Err c.in_err-write_values.field-0.0} refl c.in_ok-put_all.ensures c.in_err-write_values.ensures)

pub returns : goal.returns
returns g c = Writes-then refl (Writes-then refl c.in_ok-put_all.ensures c.in_ok-write_values.ensures) c.put_all-2.ensures
