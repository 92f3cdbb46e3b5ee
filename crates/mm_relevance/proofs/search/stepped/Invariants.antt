use Rattle.std.proofs.Common.{◌≡◌, take, map, true}
use Rattle.mm_relevance.specs.Walks.{stepped_one}
use Rattle.mm_relevance.proofs.search.stepped.Given as goal

abbrev pub invariant-loop-reach : goal.invariant-loop-reach
invariant-loop-reach l = record {
  items : l.next.items ≡ map (stepped_one l.reaches) (take l.reach-index l.reaches);
  unchanged : l.same ≡ true → map (stepped_one l.reaches) (take l.reach-index l.reaches) ≡ take l.reach-index l.reaches;
}
