use Rattle.store_tests.proofs.stores.count_by_tree.Goals as goal

pub range-requires-clause-tree : goal.range-requires-clause-tree
range-requires-clause-tree c = λ stored at. (let first = c.in-Some.ensures stored at in (1, first.0, first.1))
