use Rattle.mm_laws.proofs.Transactions.{back_at_savepoint}
use Rattle.mm_laws.proofs.laws.rollback_to_restores_the_rows_at_its_savepoint.Goals as goal

pub returns : goal.returns
returns c name commands state due leave = back_at_savepoint name state due commands leave
