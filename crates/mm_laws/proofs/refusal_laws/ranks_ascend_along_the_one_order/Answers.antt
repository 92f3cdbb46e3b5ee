use Rattle.mm_laws.proofs.Ranks.{all_are_there, ranks_ascend}
use Rattle.mm_laws.proofs.refusal_laws.ranks_ascend_along_the_one_order.Goals as goal

pub returns-clause-ascend : goal.returns-clause-ascend
returns-clause-ascend c = ranks_ascend

pub returns-clause-all : goal.returns-clause-all
returns-clause-all c = all_are_there
