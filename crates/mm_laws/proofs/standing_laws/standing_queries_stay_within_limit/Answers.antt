use Rattle.mm_laws.proofs.StandingQueries.{limit_by_change, limit_by_watch, same_bag}
use Rattle.mm_laws.proofs.standing_laws.standing_queries_stay_within_limit.Goals as goal

pub returns-clause-change : goal.returns-clause-change
returns-clause-change c = limit_by_change

pub returns-clause-others : goal.returns-clause-others
returns-clause-others c = same_bag

pub returns-clause-watch : goal.returns-clause-watch
returns-clause-watch c = λ name query state within due. limit_by_watch name query state due within
