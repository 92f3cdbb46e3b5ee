use Rattle.mm_statement.proofs.FilledAnew.{change_anew}
use Rattle.mm_statement.proofs.laws.refilled_changes_are_bound.Goals as goal

pub returns : goal.returns
returns c = λ schema. change_anew schema
