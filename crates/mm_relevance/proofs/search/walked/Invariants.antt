use Rattle.mm_relevance.proofs.Closing.{Walking}
use Rattle.mm_relevance.proofs.search.walked.Given as goal

abbrev pub invariant-loop-left : goal.invariant-loop-left
invariant-loop-left l = Walking l.fn.edges l.fn.target l.fn.first l.left l.at l.owed l.cycle.items

abbrev pub decreases-loop-left : goal.decreases-loop-left
decreases-loop-left l = l.left
