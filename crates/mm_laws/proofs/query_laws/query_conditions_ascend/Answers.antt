use Rattle.mm_laws.proofs.QueryLaws.{query_ascending}
use Rattle.mm_laws.proofs.query_laws.query_conditions_ascend.Goals as goal

pub returns : goal.returns
returns c = query_ascending
