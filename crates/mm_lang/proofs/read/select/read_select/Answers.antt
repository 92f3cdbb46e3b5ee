use Rattle.std.proofs.lemmas.Result.{err_from_is_err_and}
use Rattle.mm_lang.proofs.SelectReadings.{select_no_query, select_given}
use Rattle.mm_lang.proofs.read.select.read_select.Goals as goal

pub returns-in_err-query : goal.returns-in_err-query
returns-in_err-query c =
    let p = err_from_is_err_and c.from_residual.result c.from_residual.ensures.1 in
    rw (p.1, p.2) (select_no_query c.args.reader.now _ c.in_err-query.ensures)

pub returns : goal.returns
returns c = select_given c.args.reader.now c.read_query.new.reader c.in_ok-query.query c.in_ok-query.ensures
