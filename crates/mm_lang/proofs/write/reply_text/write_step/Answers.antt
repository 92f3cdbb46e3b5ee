use Rattle.std.proofs.Common.{◌≡◌, List, ℕ, Err, [], ◌∷◌, ◌++◌, refl, sym, ap, ◌∙◌}
use Rattle.std.proofs.lemmas.Result.{err_from_is_err_and}
use Rattle.mm_query.specs.Plans.{line_alias}
use Rattle.mm_query.specs.declared.plan_line.PlanLine.{PlanLine}
use Rattle.mm_value.proofs.Writing.{Writes-then, Writes-stops}
use Rattle.mm_lang.specs.ReplyText.{access_method_text, line_text}
use Rattle.mm_lang.proofs.write.reply_text.write_step.Goals as goal

-- a line of a plan as the parts in which it is written
parts : (step : PlanLine) (alias : List ℕ) → alias ≡ line_alias step → line_text step ++ 10 ∷ [] ≡ (alias ++ access_method_text step) ++ 10 ∷ []
parts step alias is = ap (λ l. (l ++ access_method_text step) ++ 10 ∷ []) (sym is)

pub returns-in_err-write_access_method : goal.returns-in_err-write_access_method
returns-in_err-write_access_method g c =
    let p = err_from_is_err_and c.from_residual-in_err-write_access_method.result c.from_residual-in_err-write_access_method.ensures.1 in
    Writes-stops (10 ∷ []) (parts c.args.step.now c.bytes.result.now (c.bytes.ensures.value ∙ c.alias.ensures)) p.1
    (Writes-then {result = Err c.in_err-write_access_method.field-0.0} refl c.in_ok-put_all.ensures c.in_err-write_access_method.ensures)

pub returns : goal.returns
returns g c =
    Writes-then (parts c.args.step.now c.bytes.result.now (c.bytes.ensures.value ∙ c.alias.ensures))
    (Writes-then refl c.in_ok-put_all.ensures c.in_ok-write_access_method.ensures) c.put_all-2.ensures
