use Rattle.std.proofs.Common.{inl}
use Rattle.std.proofs.lemmas.Result.{err_from_is_err_and}
use Rattle.mm_lang.proofs.CommandReadings.{update_no_name, update_no_set, update_no_assignments, update_no_tests, update_given}
use Rattle.mm_lang.proofs.read.reading.read_update.Goals as goal

pub returns-in_err-table : goal.returns-in_err-table
returns-in_err-table c =
    let p = err_from_is_err_and c.from_residual.result c.from_residual.ensures.1 in
    rw (p.1, p.2) (update_no_name c.args.reader.now _ (inl c.in_err-table.ensures))

pub returns-in_err-expect_keyword : goal.returns-in_err-expect_keyword
returns-in_err-expect_keyword c =
    let p = err_from_is_err_and c.from_residual-in_err-expect_keyword.result c.from_residual-in_err-expect_keyword.ensures.1 in
    rw (p.1, p.2) (update_no_set c.args.reader.now c.name.new.self c.in_ok-table.table c.in_ok-table.ensures _ c.in_err-expect_keyword.ensures)

pub returns-in_err-assignments : goal.returns-in_err-assignments
returns-in_err-assignments c =
    let p = err_from_is_err_and c.from_residual-in_err-assignments.result c.from_residual-in_err-assignments.ensures.1 in
    rw (p.1, p.2)
    (update_no_assignments c.args.reader.now c.name.new.self c.in_ok-table.table c.in_ok-table.ensures c.expect_keyword.new.self c.in_ok-expect_keyword.ensures
    _ c.in_err-assignments.ensures)

pub returns-in_err-tests : goal.returns-in_err-tests
returns-in_err-tests c =
    let p = err_from_is_err_and c.from_residual-in_err-tests.result c.from_residual-in_err-tests.ensures.1 in
    rw (p.1, p.2)
    (update_no_tests c.args.reader.now c.name.new.self c.in_ok-table.table c.in_ok-table.ensures c.expect_keyword.new.self c.in_ok-expect_keyword.ensures
    c.read_items.new.reader c.in_ok-assignments.assignments c.in_ok-assignments.ensures _ c.in_err-tests.ensures)

pub returns : goal.returns
returns c =
    update_given c.args.reader.now c.name.new.self c.in_ok-table.table c.in_ok-table.ensures c.expect_keyword.new.self c.in_ok-expect_keyword.ensures
    c.read_items.new.reader c.in_ok-assignments.assignments c.in_ok-assignments.ensures c.read_tests.new.reader c.in_ok-tests.tests c.in_ok-tests.ensures
