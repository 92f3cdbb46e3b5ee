use Rattle.std.proofs.Common.{Ok, Err, ◌+◌, ◌++◌, drop, take, refl, sym, ap, ◌∙◌}
use Rattle.std.specs.List.{flat_map}
use Rattle.std.proofs.lemmas.Result.{err_from_is_err_and}
use Rattle.mm_value.specs.Written.{value_text}
use Rattle.mm_value.proofs.RowTexts.{next_text, next_text_of, next_value, values_text_at, values_text_all, values_text-split}
use Rattle.mm_value.proofs.Writing.{Writes-then, Writes-stops}
use Rattle.mm_value.proofs.printed.write_values.Goals as goal

pub returns-in_err-write_value : goal.returns-in_err-write_value
returns-in_err-write_value g c =
    let p = err_from_is_err_and c.from_residual.result c.from_residual.ensures.1 in
    let value = g.V.AsValue.value in
    let others = c.in-Some.others.now in
    Writes-stops (flat_map (next_text_of value) others)
    (values_text-split value c.args.values.now c.in-Some.first.now others c.in-Some.ensures.cases.0
    ∙ ap (λ v. value_text v ++ flat_map (next_text_of value) others) (sym c.as_value.ensures)) p.1 c.in_err-write_value.ensures

pub returns-in_err-write_next : goal.returns-in_err-write_next
returns-in_err-write_next g c =
    let p = err_from_is_err_and c.from_residual-in_err-write_next.result c.from_residual-in_err-write_next.ensures.1 in
    let value = g.V.AsValue.value in
    let others = c.in-Some.others.now in
    let i = c.loop-value.value-index in
    let e = values_text_at value c.args.values.now c.in-Some.first.now others c.in-Some.ensures.cases.0 i c.value-item.result c.loop-value-test.true
    c.value-item.is
    ∙ (λ j. ((value_text (sym c.as_value.ensures j) ++ flat_map (next_text_of value) (take i others)) ++ next_text (sym c.as_value-in-loop-value.ensures j))
    ++ flat_map (next_text_of value) (drop (i + 1) others)) in
    Writes-stops (flat_map (next_text_of value) (drop (i + 1) others)) e p.1
    (Writes-then {result = Err c.in_err-write_next.field-0.0} refl (Writes-then refl c.in_ok-write_value.ensures c.loop-value.invariant)
    c.in_err-write_next.ensures)

pub loop-value-preserved : goal.loop-value-preserved
loop-value-preserved g c =
    let value = g.V.AsValue.value in
    let others = c.in-Some.others.now in
    let i = c.loop-value.value-index in
    Writes-then {result = Ok c.in_ok-write_next.field-0}
    (next_value value others i c.value-item.result c.loop-value-test.true c.value-item.is
    ∙ ap (λ v. flat_map (next_text_of value) (take i others) ++ next_text v) (sym c.as_value-in-loop-value.ensures))
    c.loop-value.invariant c.in_ok-write_next.ensures

pub returns : goal.returns
returns g c =
    let value = g.V.AsValue.value in
    let others = c.in-Some.others.now in
    let i = c.loop-value.value-index in
    Writes-then
    (values_text_all value c.args.values.now c.in-Some.first.now others c.in-Some.ensures.cases.0 i c.loop-value-test.false
    ∙ ap (λ v. value_text v ++ flat_map (next_text_of value) (take i others)) (sym c.as_value.ensures))
    c.in_ok-write_value.ensures c.loop-value.invariant
