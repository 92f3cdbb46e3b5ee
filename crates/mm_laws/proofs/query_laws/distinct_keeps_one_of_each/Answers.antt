use Rattle.mm_laws.proofs.QueryLaws.{one_counted}
use Rattle.mm_laws.proofs.query_laws.distinct_keeps_one_of_each.Goals as goal

pub returns : goal.returns
returns c = one_counted
