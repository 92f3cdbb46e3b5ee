use Rattle.mm_txn.proofs.ReleaseLaws.{earlier_again}
use Rattle.mm_txn.proofs.release_laws.a_released_name_means_the_earlier_savepoint.Goals as goal

pub returns : goal.returns
returns c = earlier_again c.rollback_to_restores_the_rows_at_its_savepoint.ensures
