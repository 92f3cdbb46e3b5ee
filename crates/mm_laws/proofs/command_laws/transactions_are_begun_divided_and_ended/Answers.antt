use Rattle.mm_laws.proofs.Commands.{may_begin, may_commit, may_divide, may_go_back, may_roll_back}
use Rattle.mm_laws.proofs.command_laws.transactions_are_begun_divided_and_ended.Goals as goal

pub returns-clause-begin : goal.returns-clause-begin
returns-clause-begin c = may_begin

pub returns-clause-commit : goal.returns-clause-commit
returns-clause-commit c = may_commit

pub returns-clause-rollback : goal.returns-clause-rollback
returns-clause-rollback c = may_roll_back

pub returns-clause-savepoint : goal.returns-clause-savepoint
returns-clause-savepoint c = may_divide

pub returns-clause-rollback_to : goal.returns-clause-rollback_to
returns-clause-rollback_to c = may_go_back
