use Rattle.mm_laws.proofs.Commands.{as_it_was, closed_by_commit, closed_by_rollback, open_by_begin}
use Rattle.mm_laws.proofs.command_laws.transactions_are_open_from_begin_to_end.Goals as goal

pub returns-clause-begin : goal.returns-clause-begin
returns-clause-begin c = open_by_begin

pub returns-clause-commit : goal.returns-clause-commit
returns-clause-commit c = closed_by_commit

pub returns-clause-rollback : goal.returns-clause-rollback
returns-clause-rollback c = closed_by_rollback

pub returns-clause-others : goal.returns-clause-others
returns-clause-others c = as_it_was
