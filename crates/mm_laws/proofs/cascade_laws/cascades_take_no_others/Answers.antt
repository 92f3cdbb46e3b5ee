use Rattle.mm_laws.proofs.ReachedCascades.{no_others}
use Rattle.mm_laws.proofs.cascade_laws.cascades_take_no_others.Goals as goal

pub returns : goal.returns
returns c = no_others
