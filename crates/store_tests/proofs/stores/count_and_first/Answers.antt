use Rattle.std.proofs.Common.{refl}
use Rattle.store_tests.proofs.stores.count_and_first.Goals as goal

pub walk-walk-requires-clause-tree : goal.walk-walk-requires-clause-tree
walk-walk-requires-clause-tree c = λ stored at. (stored.key, refl, tt)
