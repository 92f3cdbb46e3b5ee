use Rattle.std.proofs.Common.{length}
use Rattle.mlhash.specs.Chain.{chain}
use Rattle.mlhash.proofs.FindLemmas.{IsFinding}
use Rattle.mlhash.proofs.chains.find.Given as goal

abbrev pub invariant-loop-at : goal.invariant-loop-at
invariant-loop-at l = IsFinding l.nodes l.head l.hash l.reference l.at

abbrev pub decreases-loop-at : goal.decreases-loop-at
decreases-loop-at l = length (chain l.nodes l.at)
