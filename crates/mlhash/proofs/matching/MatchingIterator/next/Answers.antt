use Rattle.mlhash.proofs.ChainLemmas.{chain_step}
use Rattle.mlhash.proofs.matching.MatchingIterator.next.Goals as goal

pub bounds-self-inside-at : goal.bounds-self-inside-at
bounds-self-inside-at c = (chain_step _ _ c.first_of-at.ensures.linked c.if-at.false).below

pub invariant_of-self-2 : goal.invariant_of-self-2
invariant_of-self-2 c = (chain_step _ _ c.first_of-at.ensures.linked c.if-at.false).next
