use Rattle.std.proofs.Common.{Err, ◌++◌, codes, refl}
use Rattle.std.proofs.lemmas.Result.{err_from_is_err_and}
use Rattle.mm_value.proofs.Writing.{Writes-then, Writes-stops}
use Rattle.mm_lang.specs.ReplyText.{columns_text}
use Rattle.mm_lang.proofs.write.listing_text.write_columns.Goals as goal

pub returns-in_err-put_all : goal.returns-in_err-put_all
returns-in_err-put_all g c =
    let p = err_from_is_err_and c.from_residual.result c.from_residual.ensures.1 in
    Writes-stops (columns_text c.args.columns.now ++ codes ")") refl p.1 c.in_err-put_all.ensures

pub returns-in_err-write_column_list : goal.returns-in_err-write_column_list
returns-in_err-write_column_list g c =
    let p = err_from_is_err_and c.from_residual-in_err-write_column_list.result c.from_residual-in_err-write_column_list.ensures.1 in
    Writes-stops (codes ")") refl p.1
    (Writes-then {result = Err c.in_err-write_column_list.field-0.0} refl c.in_ok-put_all.ensures c.in_err-write_column_list.ensures)

pub returns : goal.returns
returns g c = Writes-then refl (Writes-then refl c.in_ok-put_all.ensures c.in_ok-write_column_list.ensures) c.put_all-2.ensures
