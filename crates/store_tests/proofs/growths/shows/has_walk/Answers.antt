use Rattle.store_tests.proofs.growths.shows.has_walk.Goals as goal

pub walk-requires-clause-tree : goal.walk-requires-clause-tree
walk-requires-clause-tree c = λ stored at. (let first = c.in-Some.ensures stored at in (1, first.0, first.1))
