use Rattle.std.proofs.Common.{Ok, codes, take}
use Rattle.std.specs.List.{flat_map}
use Rattle.mm_value.specs.Device.{Writes}
use Rattle.mm_value.specs.declared.device.WriteError.{WriteError}
use Rattle.mm_lang.specs.ReplyText.{line_text}
use Rattle.mm_lang.proofs.ReplyLemmas.{item_line}
use Rattle.mm_lang.proofs.write.reply_text.write_steps.Given as goal

-- the lines of the plan so far were written
abbrev pub invariant-loop-step : goal.invariant-loop-step
invariant-loop-step g l =
    Writes {T = Unit {0}} {E = WriteError} g.W.Write.contents l.initial.writer l.writer (Ok tt)
    (flat_map (item_line line_text (codes "steps ")) (take l.step-index l.steps))
