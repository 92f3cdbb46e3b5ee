use Rattle.std.proofs.Common.{◌≡◌, length}
use Rattle.mlhash.specs.Chain.{chain, IsLinked, refs_along}
use Rattle.mlhash.proofs.chains.first_of.Given as goal

abbrev pub invariant-loop-at : goal.invariant-loop-at
invariant-loop-at l = record {
  linked : IsLinked l.nodes l.at;
  same : refs_along l.nodes l.at l.hash ≡ refs_along l.nodes l.head l.hash;
}

abbrev pub decreases-loop-at : goal.decreases-loop-at
decreases-loop-at l = length (chain l.nodes l.at)
