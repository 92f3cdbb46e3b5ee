use Rattle.std.proofs.Common.{◌≤◌, Ok, take}
use Rattle.mm_value.specs.Written.{values_text}
use Rattle.mm_value.specs.declared.device.WriteError.{WriteError}
use Rattle.mm_lang.specs.Buffered.{WritesBuffered}
use Rattle.mm_lang.proofs.write.row_line.RowLines.put_values.Given as goal

-- the values so far, including the first one, were buffered or written
abbrev pub invariant-loop-i : goal.invariant-loop-i
invariant-loop-i g l = record {
  some : 1 ≤ l.i;
  text : WritesBuffered {T = Unit {0}} {E = WriteError} g.W.Write.contents l.fn.writer l.fn.self l.writer l.self (Ok tt)
      (values_text (take l.i (g.R.AsRow.row l.row)));
}
