use Rattle.std.proofs.Common.{◌≡◌, ℕ, List, ◌++◌, Ok, length}
use Rattle.mm_value.specs.Device.{Writes}
use Rattle.mm_value.specs.declared.device.WriteError.{WriteError}
use Rattle.mm_value.specs.declared.values.Value.{Value}
use Rattle.mm_reply.proofs.Walks.{lines}
use Rattle.mm_reply.proofs.writing.write_stored.Given as goal

-- the lines of the rows that were read were written, or are buffered
abbrev pub invariant-loop-row : goal.invariant-loop-row
invariant-loop-row g l = (read : List (List Value)) × (l.fn.rows ≡ read ++ l.rows)
    × ((done : List ℕ) × Writes {T = Unit {0}} {E = WriteError} g.W.Write.contents l.initial.writer l.writer (Ok tt) done × (done ++ l.lines ≡ lines read))

abbrev pub decreases-loop-row : goal.decreases-loop-row
decreases-loop-row g l = length l.rows
