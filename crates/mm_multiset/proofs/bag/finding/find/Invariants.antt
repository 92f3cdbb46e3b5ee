use Rattle.std.proofs.Common.{◌≡◌, ◌≢◌, ◌++◌}
use Rattle.std.specs.List.{All}
use Rattle.mm_partition.specs.Places.{Live, slot_at}
use Rattle.mm_multiset.proofs.bag.finding.find.Given as goal

-- none of the rows so far is equal
abbrev pub invariant-loop-at : goal.invariant-loop-at
invariant-loop-at l = record {
  split : l.initial.at-iterator ≡ l.yielded ++ l.at-iterator;
  none : All (λ at. slot_at l.rows at ≢ Live l.row) l.yielded;
}
