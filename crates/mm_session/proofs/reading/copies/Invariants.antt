use Rattle.std.proofs.Common.{◌≡◌, take}
use Rattle.mm_session.proofs.reading.copies.Given as goal

-- the copies are the first values
abbrev pub invariant-loop-value : goal.invariant-loop-value
invariant-loop-value l = l.copies.items ≡ take l.value-index l.values
