use Rattle.std.proofs.Common.{◌≡◌}
use Rattle.mm_relevance.specs.Walks.{reaches_of}
use Rattle.mm_relevance.proofs.search.reaches.Given as goal

abbrev pub invariant-loop-done : goal.invariant-loop-done
invariant-loop-done l = l.reaches.items ≡ reaches_of l.fn.edges l.fn.target l.done
