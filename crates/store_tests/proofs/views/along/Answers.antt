use Rattle.store_tests.proofs.views.along.Goals as goal

pub walk-requires-clause-tree : goal.walk-requires-clause-tree
walk-requires-clause-tree c = λ stored at. (let first = c.in-Some.ensures stored at in (c.args.column, first.0, first.1))
