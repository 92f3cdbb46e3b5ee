use Rattle.std.proofs.Common.{inl}
use Rattle.std.proofs.lemmas.Result.{err_from_is_err_and}
use Rattle.mm_lang.proofs.CommandReadings.{drop_no_keyword, drop_behind}
use Rattle.mm_lang.proofs.read.reading.read_drop.Goals as goal

pub returns-in_err-keyword : goal.returns-in_err-keyword
returns-in_err-keyword c =
    let p = err_from_is_err_and c.from_residual.result c.from_residual.ensures.1 in
    rw (p.1, p.2) (drop_no_keyword c.args.reader.now _ (inl c.in_err-keyword.ensures))

pub returns : goal.returns
returns c =
    drop_behind c.args.reader.now c.keyword.new.self c.read_dropped.new.reader c.in_ok-keyword.keyword c.read_dropped.result c.in_ok-keyword.ensures
    c.read_dropped.ensures
