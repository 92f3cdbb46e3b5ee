use Rattle.mm_laws.proofs.ReachedCascades.{none_left}
use Rattle.mm_laws.proofs.cascade_laws.cascades_leave_none_behind.Goals as goal

pub returns : goal.returns
returns c = none_left
