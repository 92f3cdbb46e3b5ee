use Rattle.std.proofs.Common.{Err, [], ◌∷◌, ◌++◌, codes, decimal, refl, append_assoc, ◌∙◌}
use Rattle.std.proofs.lemmas.Result.{err_from_is_err_and}
use Rattle.mm_value.specs.Refusals.{refusal_text}
use Rattle.mm_value.proofs.Writing.{Writes-then, Writes-stops}
use Rattle.mm_lang.proofs.ReplyLemmas.{refusal_line}
use Rattle.mm_lang.proofs.write.reply_text.write_refusal.Goals as goal

pub returns-in_err-write_labelled : goal.returns-in_err-write_labelled
returns-in_err-write_labelled g c =
    let p = err_from_is_err_and c.from_residual.result c.from_residual.ensures.1 in
    let text = refusal_text c.args.refusal in
    let e = refusal_line c.args.refusal c.from.result text (c.from.ensures ∙ c.number.ensures) refl ∙ append_assoc
    (codes "error " ++ decimal c.from.result) (32 ∷ text) (10 ∷ []) in
    Writes-stops (32 ∷ text ++ 10 ∷ []) e p.1 c.in_err-write_labelled.ensures

pub returns-in_err-write_after_space : goal.returns-in_err-write_after_space
returns-in_err-write_after_space g c =
    let p = err_from_is_err_and c.from_residual-in_err-write_after_space.result c.from_residual-in_err-write_after_space.ensures.1 in
    let e = refusal_line c.args.refusal c.from.result c.as_bytes.result.now (c.from.ensures ∙ c.number.ensures) (c.as_bytes.ensures.value ∙ c.text.ensures) in
    Writes-stops (10 ∷ []) e p.1
    (Writes-then {result = Err c.in_err-write_after_space.field-0.0} refl c.in_ok-write_labelled.ensures c.in_err-write_after_space.ensures)

pub returns : goal.returns
returns g c =
    let e = refusal_line c.args.refusal c.from.result c.as_bytes.result.now (c.from.ensures ∙ c.number.ensures) (c.as_bytes.ensures.value ∙ c.text.ensures) in
    Writes-then e (Writes-then refl c.in_ok-write_labelled.ensures c.in_ok-write_after_space.ensures) c.put_all.ensures
