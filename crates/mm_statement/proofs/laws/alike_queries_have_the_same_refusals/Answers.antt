use Rattle.mm_statement.proofs.Refusals.{queries_refused_alike}
use Rattle.mm_statement.proofs.laws.alike_queries_have_the_same_refusals.Goals as goal

pub returns : goal.returns
returns c = λ schema. queries_refused_alike schema
