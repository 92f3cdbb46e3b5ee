use Rattle.std.proofs.Common.{◌≡◌, ℕ, ◌+◌, false, length, drop, take}
use Rattle.std.specs.Io.KnownBytes.{Appends}
use Rattle.mm_value.specs.Watched.{inner_of, has_failed}
use Rattle.mm_value.proofs.device.put_all.Given as goal

-- the writer has not failed, and all bytes before `rest` were written
abbrev pub invariant-loop-rest : goal.invariant-loop-rest
invariant-loop-rest g l =
    (has_failed l.writer ≡ false) × ((n : ℕ) × (n + length l.rest ≡ length l.bytes) × (l.rest ≡ drop n l.bytes)
    × Appends (g.W.Write.contents (inner_of l.initial.writer)) (g.W.Write.contents (inner_of l.writer)) (take n l.bytes))

abbrev pub decreases-loop-rest : goal.decreases-loop-rest
decreases-loop-rest g l = length l.rest
