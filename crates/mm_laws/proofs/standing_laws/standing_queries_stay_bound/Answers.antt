use Rattle.mm_laws.proofs.StandingQueries.{watched_at_first, watched_by_step}
use Rattle.mm_laws.proofs.standing_laws.standing_queries_stay_bound.Goals as goal

pub returns-clause-first : goal.returns-clause-first
returns-clause-first c = watched_at_first

pub returns-clause-step : goal.returns-clause-step
returns-clause-step c = watched_by_step
