use Rattle.std.proofs.Common.{ℕ, ◌<◌, get_or}
use Rattle.mm_relevance.specs.declared.search.Reach.{Reach}
use Rattle.mm_relevance.specs.Walks.{Takes}
use Rattle.mm_relevance.proofs.search.taken.Given as goal

abbrev pub invariant-loop-reach : goal.invariant-loop-reach
invariant-loop-reach l = (k : ℕ) (d : Reach) → k < l.reach-index → Takes l.at l.owed (get_or l.reaches k d) → ⊥
