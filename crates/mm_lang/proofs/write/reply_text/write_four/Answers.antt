use Rattle.std.proofs.Common.{◌++◌, refl}
use Rattle.std.proofs.lemmas.Result.{err_from_is_err_and}
use Rattle.mm_value.proofs.Writing.{Writes-then, Writes-stops}
use Rattle.mm_lang.proofs.write.reply_text.write_four.Goals as goal

pub returns-in_err-write_two : goal.returns-in_err-write_two
returns-in_err-write_two g c =
    let p = err_from_is_err_and c.from_residual.result c.from_residual.ensures.1 in
    Writes-stops (c.args.third.now ++ c.args.fourth.now) refl p.1 c.in_err-write_two.ensures

pub returns : goal.returns
returns g c = Writes-then refl c.in_ok-write_two.ensures c.write_two-2.ensures
