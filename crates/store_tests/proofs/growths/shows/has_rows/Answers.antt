use Rattle.std.proofs.Common.{refl}
use Rattle.store_tests.proofs.growths.shows.has_rows.Goals as goal

pub walk-walk-requires-clause-tree : goal.walk-walk-requires-clause-tree
walk-walk-requires-clause-tree c = λ stored at. (stored.key, refl, tt)

pub matches-requires-clause-index : goal.matches-requires-clause-index
matches-requires-clause-index c = λ stored at. (stored.key, refl)
