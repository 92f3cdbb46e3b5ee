use Rattle.mm_laws.proofs.StandingQueries.{gone_by_unwatch, its_rows_are_sorted, its_rows_are_there, others_by_unwatch, others_by_watch, shown_by_watch}
use Rattle.mm_laws.proofs.standing_laws.standing_queries_are_shown.Goals as goal

pub returns-clause-permutation : goal.returns-clause-permutation
returns-clause-permutation c = its_rows_are_there

pub returns-clause-sorted : goal.returns-clause-sorted
returns-clause-sorted c = its_rows_are_sorted

pub returns-clause-watch : goal.returns-clause-watch
returns-clause-watch c = shown_by_watch

pub returns-clause-others_watch : goal.returns-clause-others_watch
returns-clause-others_watch c = others_by_watch

pub returns-clause-others_unwatch : goal.returns-clause-others_unwatch
returns-clause-others_unwatch c = others_by_unwatch

pub returns-clause-unwatch : goal.returns-clause-unwatch
returns-clause-unwatch c = gone_by_unwatch
