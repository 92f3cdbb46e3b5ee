use Rattle.mmdb_core.proofs.LawLemmas.{rolled_back_to}
use Rattle.mmdb_core.proofs.laws.rollback_to_is_never_refused.Goals as goal

pub returns : goal.returns
returns c = rolled_back_to
