use Rattle.std.proofs.Common.{refl}
use Rattle.std.proofs.lemmas.Result.{err_from_is_err_and}
use Rattle.mm_value.specs.Views.{value_of}
use Rattle.mm_value.specs.Written.{value_text}
use Rattle.mm_value.proofs.Writing.{Writes-then, Writes-stops}
use Rattle.mm_value.proofs.printed.write_next.Goals as goal

pub returns-in_err-put_all : goal.returns-in_err-put_all
returns-in_err-put_all g c =
    let p = err_from_is_err_and c.from_residual.result c.from_residual.ensures.1 in
    Writes-stops (value_text (value_of c.args.value.now)) refl p.1 c.in_err-put_all.ensures

pub returns : goal.returns
returns g c = Writes-then refl c.in_ok-put_all.ensures c.write_value.ensures
