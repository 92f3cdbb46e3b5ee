use Rattle.std.proofs.Common.{Ok, take}
use Rattle.std.specs.List.{flat_map}
use Rattle.mm_value.specs.Device.{Writes}
use Rattle.mm_value.specs.declared.device.WriteError.{WriteError}
use Rattle.mm_lang.proofs.ListingTexts.{next_column}
use Rattle.mm_lang.proofs.write.listing_text.write_column_list.Given as goal

-- the columns after the first so far were written
abbrev pub invariant-loop-column : goal.invariant-loop-column
invariant-loop-column g l =
    Writes {T = Unit {0}} {E = WriteError} g.W.Write.contents l.initial.writer l.writer (Ok tt) (flat_map next_column (take l.column-index l.others))
