use Rattle.mm_session.proofs.ShownColumns.{columns_by_watch, columns_stay}
use Rattle.mm_session.proofs.columns_law.standing_queries_keep_their_columns.Goals as goal

pub returns-clause-watch : goal.returns-clause-watch
returns-clause-watch c = columns_by_watch

pub returns-clause-step : goal.returns-clause-step
returns-clause-step c name command state beside bound had there = columns_stay name state beside bound command had there
