use Rattle.std.proofs.Common.{inl}
use Rattle.std.proofs.lemmas.Result.{err_from_is_err_and}
use Rattle.mm_lang.proofs.CommandReadings.{unwatch_no_name, unwatch_given}
use Rattle.mm_lang.proofs.read.reading.read_unwatch.Goals as goal

pub returns-in_err-name : goal.returns-in_err-name
returns-in_err-name c =
    let p = err_from_is_err_and c.from_residual.result c.from_residual.ensures.1 in
    rw (p.1, p.2) (unwatch_no_name c.args.reader.now _ (inl c.in_err-name.ensures))

pub returns : goal.returns
returns c = unwatch_given c.args.reader.now c.name.new.self c.in_ok-name.name c.in_ok-name.ensures
