use Rattle.std.proofs.Common.{◌≡◌, ℕ, ◌<◌}
use Rattle.std.specs.Prelude.{slice_get}
use Rattle.mm_partition.specs.Views.{viewed}
use Rattle.mm_multiset.proofs.bag.finding.is_same.Given as goal

-- the values so far are equal
abbrev pub invariant-loop-i : goal.invariant-loop-i
invariant-loop-i l = (k : ℕ) → k < l.i → slice_get (viewed l.stored) k ≡ slice_get l.row k
