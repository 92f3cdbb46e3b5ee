use Rattle.std.proofs.Common.{refl}
use Rattle.store_tests.proofs.stores.count_between.Goals as goal

pub range-requires-clause-tree : goal.range-requires-clause-tree
range-requires-clause-tree c = λ stored at. (stored.key, refl, tt)
