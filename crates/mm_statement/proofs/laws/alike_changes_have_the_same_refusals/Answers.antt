use Rattle.mm_statement.proofs.Refusals.{changes_refused_alike}
use Rattle.mm_statement.proofs.laws.alike_changes_have_the_same_refusals.Goals as goal

pub returns : goal.returns
returns c = λ schema. changes_refused_alike schema
