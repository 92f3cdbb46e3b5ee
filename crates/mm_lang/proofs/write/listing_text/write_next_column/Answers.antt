use Rattle.std.proofs.Common.{refl}
use Rattle.std.proofs.lemmas.Result.{err_from_is_err_and}
use Rattle.mm_value.proofs.Writing.{Writes-then, Writes-stops}
use Rattle.mm_lang.specs.ReplyText.{column_text}
use Rattle.mm_lang.proofs.write.listing_text.write_next_column.Goals as goal

pub returns-in_err-put_all : goal.returns-in_err-put_all
returns-in_err-put_all g c =
    let p = err_from_is_err_and c.from_residual.result c.from_residual.ensures.1 in
    Writes-stops (column_text c.args.column.now) refl p.1 c.in_err-put_all.ensures

pub returns : goal.returns
returns g c = Writes-then refl c.in_ok-put_all.ensures c.write_column.ensures
