use Rattle.std.proofs.Common.{◌≡◌, ◌≢◌, ℕ, List, ◌++◌, length, take}
use Rattle.std.specs.List.{All}
use Rattle.mm_value.specs.Literal.{doubled}
use Rattle.mm_value.proofs.literals.unquote.Given as goal

-- a prefix of a text was read, and the buffer contains as much of it as fits
abbrev pub invariant-loop-byte : goal.invariant-loop-byte
invariant-loop-byte l =
    (front : List ℕ) × (l.body ≡ doubled front ++ l.rest) × All (λ b. b ≢ 10) front × (l.len ≡ length front)
    × (take (length front) l.buffer ≡ take (length l.buffer) front)

abbrev pub decreases-loop-byte : goal.decreases-loop-byte
decreases-loop-byte l = length l.rest
