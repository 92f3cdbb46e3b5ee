use Rattle.mm_join.proofs.JoinSteps.{joined_fitting}
use Rattle.mm_join.proofs.laws.join_step.Goals as goal

pub returns : goal.returns
returns c = joined_fitting
