use Rattle.std.proofs.Common.{◌≡◌, drop}
use Rattle.mm_query.specs.Placing.{has_duplicate_targets}
use Rattle.mm_query.proofs.place.has_duplicate_targets.Given as goal

-- The remaining assignments have duplicates if and only if all of them do.
abbrev pub invariant-loop-i : goal.invariant-loop-i
invariant-loop-i l = has_duplicate_targets (drop l.i l.assignments) ≡ has_duplicate_targets l.assignments
