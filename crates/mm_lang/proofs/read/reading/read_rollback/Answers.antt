use Rattle.std.proofs.lemmas.Result.{err_from_is_err_and}
use Rattle.mm_lang.proofs.CommandReadings.{rollback_alone, rollback_no_name, rollback_to_given}
use Rattle.mm_lang.proofs.read.reading.read_rollback.Goals as goal

pub returns-then-not-skip_keyword : goal.returns-then-not-skip_keyword
returns-then-not-skip_keyword c = rollback_alone c.args.reader.now c.skip_keyword.new.self c.if-not-skip_keyword.ensures

pub returns-in_err-name : goal.returns-in_err-name
returns-in_err-name c =
    let p = err_from_is_err_and c.from_residual.result c.from_residual.ensures.1 in
    rw (p.1, p.2) (rollback_no_name c.args.reader.now c.skip_keyword.new.self c.if-not-skip_keyword.ensures _ c.in_err-name.ensures)

pub returns : goal.returns
returns c =
    rollback_to_given c.args.reader.now c.skip_keyword.new.self c.if-not-skip_keyword.ensures c.name.new.self c.in_ok-name.name c.in_ok-name.ensures
