use Rattle.std.proofs.Common.{Err, [], ◌∷◌, ◌++◌, refl}
use Rattle.std.proofs.lemmas.Result.{err_from_is_err_and}
use Rattle.mm_value.specs.Literal.{doubled}
use Rattle.mm_value.proofs.Writing.{Writes-then, Writes-stops}
use Rattle.mm_value.proofs.printed.write_quoted.Goals as goal

pub returns-in_err-put_all : goal.returns-in_err-put_all
returns-in_err-put_all g c =
    let p = err_from_is_err_and c.from_residual.result c.from_residual.ensures.1 in
    Writes-stops (doubled c.args.text.now ++ 39 ∷ []) refl p.1 c.in_err-put_all.ensures

pub returns-in_err-write_doubled : goal.returns-in_err-write_doubled
returns-in_err-write_doubled g c =
    let p = err_from_is_err_and c.from_residual-in_err-write_doubled.result c.from_residual-in_err-write_doubled.ensures.1 in
    Writes-stops (39 ∷ []) refl p.1 (Writes-then {result = Err c.in_err-write_doubled.field-0.0} refl c.in_ok-put_all.ensures c.in_err-write_doubled.ensures)

pub returns : goal.returns
returns g c = Writes-then refl (Writes-then refl c.in_ok-put_all.ensures c.in_ok-write_doubled.ensures) c.put_all-2.ensures
