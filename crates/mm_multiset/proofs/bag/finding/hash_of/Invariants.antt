use Rattle.std.proofs.Common.{◌≡◌, fold, take}
use Rattle.mm_multiset.specs.RowHash.{with_value}
use Rattle.mm_multiset.proofs.bag.finding.hash_of.Given as goal

-- the hash of the values so far
abbrev pub invariant-loop-value : goal.invariant-loop-value
invariant-loop-value l = l.hash ≡ fold with_value 0 (take l.value-index l.row)
