use Rattle.std.proofs.Common.{inl}
use Rattle.std.proofs.lemmas.Result.{err_from_is_err_and}
use Rattle.mm_lang.proofs.CommandReadings.{delete_no_name, delete_no_tests, delete_given}
use Rattle.mm_lang.proofs.read.reading.read_delete.Goals as goal

pub returns-in_err-table : goal.returns-in_err-table
returns-in_err-table c =
    let p = err_from_is_err_and c.from_residual.result c.from_residual.ensures.1 in
    rw (p.1, p.2) (delete_no_name c.args.reader.now _ (inl c.in_err-table.ensures))

pub returns-in_err-tests : goal.returns-in_err-tests
returns-in_err-tests c =
    let p = err_from_is_err_and c.from_residual-in_err-tests.result c.from_residual-in_err-tests.ensures.1 in
    rw (p.1, p.2) (delete_no_tests c.args.reader.now c.name.new.self c.in_ok-table.table c.in_ok-table.ensures _ c.in_err-tests.ensures)

pub returns : goal.returns
returns c =
    delete_given c.args.reader.now c.name.new.self c.in_ok-table.table c.in_ok-table.ensures c.read_tests.new.reader c.in_ok-tests.tests c.in_ok-tests.ensures
