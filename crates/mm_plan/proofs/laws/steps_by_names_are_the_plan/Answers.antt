use Rattle.mm_plan.proofs.NamedSteps.{plan_named}
use Rattle.mm_plan.proofs.laws.steps_by_names_are_the_plan.Goals as goal

pub returns : goal.returns
returns c = plan_named
