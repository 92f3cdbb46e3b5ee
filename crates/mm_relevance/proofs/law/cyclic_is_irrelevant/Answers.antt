use Rattle.mm_relevance.proofs.Irrelevance.{irrelevant_by}
use Rattle.mm_relevance.proofs.law.cyclic_is_irrelevant.Goals as goal

pub returns : goal.returns
returns c = irrelevant_by
