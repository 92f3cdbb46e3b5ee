use Rattle.std.proofs.Common.{◌≡◌, ◌++◌, length}
use Rattle.mm_lang.specs.Templates.{holes_among}
use Rattle.mm_lang.specs.Tokens.{tokens}
use Rattle.mm_lang.proofs.read.hole.holes_among.Given as goal

abbrev pub invariant-loop-token : goal.invariant-loop-token
invariant-loop-token l = holes_among (tokens l.line) ≡ l.holes.items ++ holes_among (tokens l.rest)

abbrev pub decreases-loop-token : goal.decreases-loop-token
decreases-loop-token l = length l.rest
