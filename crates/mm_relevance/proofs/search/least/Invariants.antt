use Rattle.std.proofs.Common.{◌≡◌, take}
use Rattle.std.specs.List.{fold}
use Rattle.mm_relevance.specs.Walks.{better}
use Rattle.mm_relevance.proofs.search.least.Given as goal

abbrev pub invariant-loop-reach : goal.invariant-loop-reach
invariant-loop-reach l = l.best ≡ fold (better l.at) l.initial.best (take l.reach-index l.reaches)
