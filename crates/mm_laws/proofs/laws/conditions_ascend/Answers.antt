use Rattle.mm_laws.proofs.KeyOrder.{ascending}
use Rattle.mm_laws.proofs.laws.conditions_ascend.Goals as goal

pub returns : goal.returns
returns c = ascending
