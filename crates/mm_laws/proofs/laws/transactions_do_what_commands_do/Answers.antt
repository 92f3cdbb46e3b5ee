use Rattle.mm_laws.proofs.Transactions.{all_beside, reply_beside}
use Rattle.mm_laws.proofs.laws.transactions_do_what_commands_do.Goals as goal

pub returns-clause-replies : goal.returns-clause-replies
returns-clause-replies c = reply_beside

pub returns-clause-states : goal.returns-clause-states
returns-clause-states c = all_beside
