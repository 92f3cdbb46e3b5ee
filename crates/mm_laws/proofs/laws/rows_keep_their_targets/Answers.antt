use Rattle.mm_laws.proofs.KeptTargets.{reached_with_targets, saved_with_targets}
use Rattle.mm_laws.proofs.laws.rows_keep_their_targets.Goals as goal

pub returns-clause-rows : goal.returns-clause-rows
returns-clause-rows c = reached_with_targets

pub returns-clause-saved : goal.returns-clause-saved
returns-clause-saved c = saved_with_targets
