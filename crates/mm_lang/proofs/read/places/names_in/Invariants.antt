use Rattle.std.proofs.Common.{◌≤◌, All, length}
use Rattle.mm_lang.proofs.read.places.names_in.Given as goal

abbrev pub invariant-loop-token : goal.invariant-loop-token
invariant-loop-token l = All (λ found. found.place ≤ length l.line) l.names.items

abbrev pub decreases-loop-token : goal.decreases-loop-token
decreases-loop-token l = length l.rest
