use Rattle.std.proofs.Common.{Ok, take}
use Rattle.std.specs.List.{flat_map}
use Rattle.mm_value.specs.Device.{Writes}
use Rattle.mm_value.specs.declared.device.WriteError.{WriteError}
use Rattle.mm_lang.specs.ReplyText.{table_lines}
use Rattle.mm_lang.proofs.write.listing_text.write_tables.Given as goal

-- the lines so far were written
abbrev pub invariant-loop-table : goal.invariant-loop-table
invariant-loop-table g l =
    Writes {T = Unit {0}} {E = WriteError} g.W.Write.contents l.initial.writer l.writer (Ok tt) (flat_map table_lines (take l.table-index l.tables))
