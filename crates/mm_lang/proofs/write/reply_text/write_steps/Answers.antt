use Rattle.std.proofs.Common.{Err, ◌+◌, ◌++◌, codes, refl, ap, ◌∙◌}
use Rattle.std.proofs.lemmas.Result.{err_from_is_err_and}
use Rattle.mm_value.proofs.Writing.{Writes-then, Writes-stops}
use Rattle.mm_lang.specs.ReplyText.{line_text}
use Rattle.mm_lang.proofs.ReplyLemmas.{counted_all, counted_at, item_lines_more, lines_behind_first}
use Rattle.mm_lang.proofs.write.reply_text.write_steps.Goals as goal

pub returns-in_err-write_step : goal.returns-in_err-write_step
returns-in_err-write_step g c =
    let p = err_from_is_err_and c.from_residual.result c.from_residual.ensures.1 in
    let steps = c.args.steps.now in
    let i = c.loop-step.step-index in
    let label = codes "steps " in
    let e =
    counted_at line_text label steps (i + 1)
    ∙ ap (λ l. l ++ lines_behind_first line_text label (i + 1) steps)
    (item_lines_more line_text label steps i c.step-item.result c.loop-step-test.true c.step-item.is) in
    Writes-stops (lines_behind_first line_text label (i + 1) steps) e p.1
    (Writes-then {result = Err c.in_err-write_step.field-0.0} refl c.loop-step.invariant c.in_err-write_step.ensures)

pub returns : goal.returns
returns g c =
    Writes-then (counted_all line_text (codes "steps ") c.args.steps.now c.loop-step.step-index c.loop-step-test.false) c.loop-step.invariant
    c.write_count.ensures
