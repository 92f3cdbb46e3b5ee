use Rattle.std.proofs.Common.{length}
use Rattle.mm_session.proofs.template_hash.template_hash.Given as goal

-- nothing is promised of a hash
abbrev pub invariant-loop-left : goal.invariant-loop-left
invariant-loop-left l = Unit {0}

abbrev pub decreases-loop-left : goal.decreases-loop-left
decreases-loop-left l = length l.left

abbrev pub invariant-loop-byte : goal.invariant-loop-byte
invariant-loop-byte l = Unit {0}
