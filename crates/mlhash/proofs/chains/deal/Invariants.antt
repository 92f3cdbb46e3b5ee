use Rattle.std.proofs.Common.{length}
use Rattle.mlhash.specs.Chain.{chain, IsDealing}
use Rattle.mlhash.proofs.chains.deal.Given as goal

abbrev pub invariant-loop-at : goal.invariant-loop-at
invariant-loop-at l =
    IsDealing l.initial.nodes l.from l.mask l.stay l.onto l.nodes l.at l.staying l.leaving

abbrev pub decreases-loop-at : goal.decreases-loop-at
decreases-loop-at l = length (chain l.nodes l.at)
