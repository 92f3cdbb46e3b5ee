use Rattle.std.proofs.Common.{◌≡◌, take, map}
use Rattle.mm_relevance.specs.Walks.{reach_of, rest}
use Rattle.mm_relevance.proofs.search.start.Given as goal

abbrev pub invariant-loop-edge : goal.invariant-loop-edge
invariant-loop-edge l = l.reaches.items ≡ map (reach_of (rest l.edges l.target 0)) (take l.edge-index l.edges)
