use Rattle.std.proofs.Common.{◌≡◌, ℕ, List, ◌++◌, Ok, length}
use Rattle.mm_value.specs.Literal.{doubled}
use Rattle.mm_value.specs.declared.device.WriteError.{WriteError}
use Rattle.mm_lang.specs.Buffered.{WritesBuffered}
use Rattle.mm_lang.proofs.write.row_line.RowLines.put_doubled.Given as goal

-- the doubled text up to `rest` was buffered or written
abbrev pub invariant-loop-quote : goal.invariant-loop-quote
invariant-loop-quote g l =
    (done : List ℕ) × (doubled l.text ≡ done ++ doubled l.rest)
    × WritesBuffered {T = Unit {0}} {E = WriteError} g.W.Write.contents l.fn.writer l.fn.self l.writer l.self (Ok tt) done

abbrev pub decreases-loop-quote : goal.decreases-loop-quote
decreases-loop-quote g l = length l.rest
