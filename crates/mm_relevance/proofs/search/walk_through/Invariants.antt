use Rattle.std.proofs.Common.{◌≡◌}
use Rattle.mm_relevance.specs.Walks.{reaches_of}
use Rattle.mm_relevance.proofs.search.walk_through.Given as goal

abbrev pub invariant-loop-n : goal.invariant-loop-n
invariant-loop-n l = l.reaches.items ≡ reaches_of l.edges l.target l.n
