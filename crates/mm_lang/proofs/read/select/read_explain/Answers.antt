use Rattle.std.proofs.lemmas.Result.{err_from_is_err_and}
use Rattle.mm_lang.proofs.SelectReadings.{explain_no_select, explain_no_query, explain_given}
use Rattle.mm_lang.proofs.read.select.read_explain.Goals as goal

pub returns-in_err-expect_keyword : goal.returns-in_err-expect_keyword
returns-in_err-expect_keyword c =
    let p = err_from_is_err_and c.from_residual.result c.from_residual.ensures.1 in
    rw (p.1, p.2) (explain_no_select c.args.reader.now _ c.in_err-expect_keyword.ensures)

pub returns-in_err-query : goal.returns-in_err-query
returns-in_err-query c =
    let p = err_from_is_err_and c.from_residual-in_err-query.result c.from_residual-in_err-query.ensures.1 in
    rw (p.1, p.2) (explain_no_query c.args.reader.now c.expect_keyword.new.self c.in_ok-expect_keyword.ensures _ c.in_err-query.ensures)

pub returns : goal.returns
returns c =
    explain_given c.args.reader.now c.expect_keyword.new.self c.in_ok-expect_keyword.ensures c.read_query.new.reader c.in_ok-query.query
    c.in_ok-query.ensures
