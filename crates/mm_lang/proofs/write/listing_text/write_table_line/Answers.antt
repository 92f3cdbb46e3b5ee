use Rattle.std.proofs.Common.{refl}
use Rattle.std.proofs.lemmas.Result.{err_from_is_err_and}
use Rattle.mm_value.proofs.Writing.{Writes-then, Writes-stops}
use Rattle.mm_lang.specs.ReplyText.{rows_listed}
use Rattle.mm_lang.proofs.write.listing_text.write_table_line.Goals as goal

pub returns-in_err-write_table_definition : goal.returns-in_err-write_table_definition
returns-in_err-write_table_definition g c =
    let p = err_from_is_err_and c.from_residual.result c.from_residual.ensures.1 in
    Writes-stops (rows_listed c.args.listed.now.rows) refl p.1 c.in_err-write_table_definition.ensures

pub returns : goal.returns
returns g c = Writes-then refl c.in_ok-write_table_definition.ensures c.write_count.ensures
