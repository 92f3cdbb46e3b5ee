use Rattle.mmdb_core.proofs.LawLemmas.{no_rollback_outside, rolled_back}
use Rattle.mmdb_core.proofs.laws.rollback_is_never_refused.Goals as goal

pub returns-clause-done : goal.returns-clause-done
returns-clause-done c = rolled_back

pub returns-clause-refused : goal.returns-clause-refused
returns-clause-refused c = no_rollback_outside
