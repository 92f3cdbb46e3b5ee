use Rattle.std.proofs.Common.{◌++◌, sym, ap, ◌∙◌}
use Rattle.mm_value.proofs.Writing.{Writes-then}
use Rattle.mm_lang.proofs.write.reply_text.write_labelled.Goals as goal

pub returns : goal.returns
returns g c =
    Writes-then (ap (λ l. c.args.label.now ++ l) (sym (c.as_bytes.ensures.value ∙ c.format.ensures.text))) c.in_ok-put_all.ensures c.put_all-2.ensures
