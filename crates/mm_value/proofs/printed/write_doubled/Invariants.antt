use Rattle.std.proofs.Common.{◌≡◌, ℕ, List, ◌++◌, Ok, length}
use Rattle.mm_value.specs.declared.device.WriteError.{WriteError}
use Rattle.mm_value.specs.Device.{Writes}
use Rattle.mm_value.specs.Literal.{doubled}
use Rattle.mm_value.proofs.printed.write_doubled.Given as goal

-- the doubled text up to `rest` was written
abbrev pub invariant-loop-quote : goal.invariant-loop-quote
invariant-loop-quote g l =
    (done : List ℕ) × (doubled l.text ≡ done ++ doubled l.rest)
    × Writes {T = Unit {0}} {E = WriteError} g.W.Write.contents l.initial.writer l.writer (Ok tt) done

abbrev pub decreases-loop-quote : goal.decreases-loop-quote
decreases-loop-quote g l = length l.rest
