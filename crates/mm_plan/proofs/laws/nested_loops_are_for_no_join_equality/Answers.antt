use Rattle.mm_plan.proofs.Unjoined.{only_without_key}
use Rattle.mm_plan.proofs.laws.nested_loops_are_for_no_join_equality.Goals as goal

pub returns : goal.returns
returns c = only_without_key
