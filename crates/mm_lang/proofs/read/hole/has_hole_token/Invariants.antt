use Rattle.std.proofs.Common.{◌≡◌, length}
use Rattle.mm_lang.specs.Tokens.{has_hole, tokens}
use Rattle.mm_lang.proofs.read.hole.has_hole_token.Given as goal

abbrev pub invariant-loop-token : goal.invariant-loop-token
invariant-loop-token l = has_hole (tokens l.line) ≡ has_hole (tokens l.rest)

abbrev pub decreases-loop-token : goal.decreases-loop-token
decreases-loop-token l = length l.rest
