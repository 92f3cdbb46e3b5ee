use Rattle.std.proofs.Common.{◌++◌, sym, ap, ◌∙◌}
use Rattle.std.specs.Int.{w64}
use Rattle.std.proofs.lemmas.Int.{to_z-of_z}
use Rattle.mm_value.proofs.Writing.{Writes-then}
use Rattle.mm_lang.specs.QueryText.{shift_text}
use Rattle.mm_lang.proofs.write.query_text.write_shift.Goals as goal

pub returns : goal.returns
returns g c =
    Writes-then
    (ap shift_text (sym (to_z-of_z w64 c.args.by c.ranges.by)) ∙ c.plus_of.ensures
    ∙ ap (λ l. c.plus_of.result.now ++ l) (sym (c.as_bytes.ensures.value ∙ c.format.ensures.text)))
    c.in_ok-put_all.ensures c.put_all-2.ensures
