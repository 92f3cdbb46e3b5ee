use Rattle.std.proofs.Common.{ℕ, ◌<◌, get_or}
use Rattle.mm_relevance.specs.declared.edge.Edge.{Edge}
use Rattle.mm_relevance.proofs.Turned.{Starts}
use Rattle.mm_relevance.proofs.search.negative_walk.Given as goal

abbrev pub invariant-loop-i : goal.invariant-loop-i
invariant-loop-i l = (k : ℕ) (d : Edge) → k < l.i → Starts l.edges (get_or l.edges k d) → ⊥
