use Rattle.std.proofs.Common.{inl}
use Rattle.std.proofs.lemmas.Result.{err_from_is_err_and}
use Rattle.mm_lang.proofs.SelectReadings.{watch_no_name, watch_no_select, watch_no_query, watch_given}
use Rattle.mm_lang.proofs.read.select.read_watch.Goals as goal

pub returns-in_err-name : goal.returns-in_err-name
returns-in_err-name c =
    let p = err_from_is_err_and c.from_residual.result c.from_residual.ensures.1 in
    rw (p.1, p.2) (watch_no_name c.args.reader.now _ (inl c.in_err-name.ensures))

pub returns-in_err-expect_keyword : goal.returns-in_err-expect_keyword
returns-in_err-expect_keyword c =
    let p = err_from_is_err_and c.from_residual-in_err-expect_keyword.result c.from_residual-in_err-expect_keyword.ensures.1 in
    rw (p.1, p.2) (watch_no_select c.args.reader.now c.name.new.self c.in_ok-name.name c.in_ok-name.ensures _ c.in_err-expect_keyword.ensures)

pub returns-in_err-query : goal.returns-in_err-query
returns-in_err-query c =
    let p = err_from_is_err_and c.from_residual-in_err-query.result c.from_residual-in_err-query.ensures.1 in
    rw (p.1, p.2)
    (watch_no_query c.args.reader.now c.name.new.self c.in_ok-name.name c.in_ok-name.ensures c.expect_keyword.new.self c.in_ok-expect_keyword.ensures _
    c.in_err-query.ensures)

pub returns : goal.returns
returns c =
    watch_given c.args.reader.now c.name.new.self c.in_ok-name.name c.in_ok-name.ensures c.expect_keyword.new.self c.in_ok-expect_keyword.ensures
    c.read_query.new.reader c.in_ok-query.query c.in_ok-query.ensures
