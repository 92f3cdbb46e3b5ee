use Rattle.store_tests.proofs.growths.shows.has_matches.Goals as goal

pub matches-requires-clause-index : goal.matches-requires-clause-index
matches-requires-clause-index c = λ stored at. (1, (c.in-Some.ensures stored at).0)
