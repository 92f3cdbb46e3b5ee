use Rattle.std.proofs.Common.{◌≡◌, ℕ, ◌<◌, false, get_or}
use Rattle.mm_value.specs.Equality.{same_row}
use Rattle.mm_multiset.specs.declared.signed.Signed.{Signed}
use Rattle.mm_multiset.proofs.few.place_of.Given as goal

-- no change so far is of the row
abbrev pub invariant-loop-i : goal.invariant-loop-i
invariant-loop-i l = (k : ℕ) (other : Signed) → k < l.i → same_row l.row (get_or l.changes k other).row ≡ false
