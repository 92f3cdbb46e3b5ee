use Rattle.std.proofs.Common.{Ok, take}
use Rattle.std.specs.List.{flat_map}
use Rattle.mm_value.specs.declared.device.WriteError.{WriteError}
use Rattle.mm_value.specs.Device.{Writes}
use Rattle.mm_value.proofs.RowTexts.{next_text_of}
use Rattle.mm_value.proofs.printed.write_values.Given as goal

-- the first value and those so far were written
abbrev pub invariant-loop-value : goal.invariant-loop-value
invariant-loop-value g l =
    Writes {T = Unit {0}} {E = WriteError} g.W.Write.contents l.initial.writer l.writer (Ok tt)
    (flat_map (next_text_of g.V.AsValue.value) (take l.value-index l.others))
