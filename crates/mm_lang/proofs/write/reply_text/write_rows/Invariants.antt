use Rattle.std.proofs.Common.{◌≡◌, ℕ, List, ◌++◌, Ok, take}
use Rattle.std.specs.List.{flat_map}
use Rattle.mm_value.specs.Device.{Writes}
use Rattle.mm_value.specs.declared.device.WriteError.{WriteError}
use Rattle.mm_lang.proofs.ReplyLemmas.{row_line}
use Rattle.mm_lang.proofs.write.reply_text.write_rows.Given as goal

-- the lines of the rows so far were written or buffered
abbrev pub invariant-loop-row : goal.invariant-loop-row
invariant-loop-row g l = (done : List ℕ) × Writes {T = Unit {0}} {E = WriteError} g.W.Write.contents l.initial.writer l.writer (Ok tt) done
    × (done ++ l.lines ≡ flat_map row_line (take l.row-index l.rows))
