use Rattle.mm_statement.proofs.FilledAnew.{query_anew}
use Rattle.mm_statement.proofs.laws.refilled_queries_are_bound.Goals as goal

pub returns : goal.returns
returns c = λ schema. query_anew schema
