use Rattle.mm_txn.proofs.ReleaseLaws.{no_trace}
use Rattle.mm_txn.proofs.release_laws.released_savepoints_leave_no_trace.Goals as goal

pub returns : goal.returns
returns c name commands state due leave =
    no_trace name state due commands (c.rollback_to_restores_the_rows_at_its_savepoint.ensures name commands state due leave)
