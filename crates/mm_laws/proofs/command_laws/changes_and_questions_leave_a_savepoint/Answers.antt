use Rattle.mm_laws.proofs.Commands.{another_leaves, same_does_not}
use Rattle.mm_laws.proofs.command_laws.changes_and_questions_leave_a_savepoint.Goals as goal

pub returns-clause-another : goal.returns-clause-another
returns-clause-another c = another_leaves

pub returns-clause-same : goal.returns-clause-same
returns-clause-same c = same_does_not
