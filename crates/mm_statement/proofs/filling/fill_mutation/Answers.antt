use Rattle.std.proofs.Common.{map}
use Rattle.std.specs.List.{flat_map}
use Rattle.std.proofs.lemmas.Result.{err_from_is_err_and}
use Rattle.mm_query.specs.declared.command.Mutation.TheVariants.{Update}
use Rattle.mm_lang.specs.Reading.{assignment_literals, test_literals}
use Rattle.mm_statement.specs.Alike.{change_literals}
use Rattle.mm_statement.specs.Filling.{blank_assignment, blank_atom, blank_mutation}
use Rattle.mm_statement.proofs.FilledCommands.{assignments_stuck, delete_filled, insert_filled, tests_stuck, update_filled}
use Rattle.mm_statement.proofs.Fills.{stuck_with}
use Rattle.mm_statement.proofs.filling.fill_mutation.Goals as goal

pub returns-in_err-assignments-in-Update : goal.returns-in_err-assignments-in-Update
returns-in_err-assignments-in-Update c =
    let p = err_from_is_err_and c.from_residual-in_err-assignments-in-Update.result c.from_residual-in_err-assignments-in-Update.ensures.1 in
    let old = c.args.filler.now in
    let new = c.fill_few.new.filler in
    rw (p.1, p.2, c.in-Update.is)
    (stuck_with (map blank_assignment) (flat_map assignment_literals) blank_mutation change_literals old old new new c.in-Update.assignments
    (Update c.in-Update.table c.in-Update.assignments c.in-Update.tests) _
    (assignments_stuck old c.in-Update.table c.in-Update.assignments c.in-Update.tests) c.in_err-assignments-in-Update.ensures)

pub returns-in_err-tests-in-Update : goal.returns-in_err-tests-in-Update
returns-in_err-tests-in-Update c =
    let p = err_from_is_err_and c.from_residual-in_err-tests-in-Update.result c.from_residual-in_err-tests-in-Update.ensures.1 in
    let old = c.args.filler.now in
    let mid = c.fill_few.new.filler in
    let new = c.fill_few-in-Update.new.filler in
    rw (p.1, p.2, c.in-Update.is)
    (stuck_with (map blank_atom) (flat_map test_literals) blank_mutation change_literals old mid new new c.in-Update.tests
    (Update c.in-Update.table c.in-Update.assignments c.in-Update.tests) _
    (tests_stuck old mid c.in-Update.table c.in-Update.assignments c.in_ok-assignments-in-Update.assignments c.in-Update.tests
    c.in_ok-assignments-in-Update.ensures) c.in_err-tests-in-Update.ensures)

pub returns-in_ok-tuples-in-Insert : goal.returns-in_ok-tuples-in-Insert
returns-in_ok-tuples-in-Insert c =
    rw c.in-Insert.is
    (insert_filled c.args.filler.now c.fill_tuples.new.filler c.in-Insert.table c.in-Insert.tuples c.in_ok-tuples-in-Insert.tuples
    c.in_ok-tuples-in-Insert.ensures)

pub returns-in_ok-tests-in-Update : goal.returns-in_ok-tests-in-Update
returns-in_ok-tests-in-Update c =
    rw c.in-Update.is
    (update_filled c.args.filler.now c.fill_few.new.filler c.fill_few-in-Update.new.filler c.in-Update.table c.in-Update.assignments
    c.in_ok-assignments-in-Update.assignments c.in-Update.tests c.in_ok-tests-in-Update.tests c.in_ok-assignments-in-Update.ensures
    c.in_ok-tests-in-Update.ensures)

pub returns-in_ok-asked-in-Delete : goal.returns-in_ok-asked-in-Delete
returns-in_ok-asked-in-Delete c =
    rw c.in-Delete.is
    (delete_filled c.args.filler.now c.fill_few-in-Delete.new.filler c.in-Delete.table c.in-Delete.tests c.in_ok-asked-in-Delete.asked
    c.in_ok-asked-in-Delete.ensures)
