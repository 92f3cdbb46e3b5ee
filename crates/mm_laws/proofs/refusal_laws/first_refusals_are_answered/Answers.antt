use Rattle.mm_laws.proofs.Ranks.{answered_holds, first_is_answered}
use Rattle.mm_laws.proofs.refusal_laws.first_refusals_are_answered.Goals as goal

pub returns-clause-due : goal.returns-clause-due
returns-clause-due c = first_is_answered

pub returns-clause-holds : goal.returns-clause-holds
returns-clause-holds c = answered_holds
