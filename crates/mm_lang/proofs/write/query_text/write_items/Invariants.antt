use Rattle.std.proofs.Common.{Ok, take}
use Rattle.std.specs.List.{flat_map}
use Rattle.mm_value.specs.Device.{Writes}
use Rattle.mm_value.specs.declared.device.WriteError.{WriteError}
use Rattle.mm_lang.proofs.QueryTexts.{next_item}
use Rattle.mm_lang.proofs.write.query_text.write_items.Given as goal

-- the items after the first so far were written
abbrev pub invariant-loop-item : goal.invariant-loop-item
invariant-loop-item g l =
    Writes {T = Unit {0}} {E = WriteError} g.W.Write.contents l.initial.writer l.writer (Ok tt)
    (flat_map (next_item (g.I.ItemText.text l.how)) (take l.item-index l.others))
