use Rattle.std.proofs.Common.{◌+◌, ◌≤◌, Ok, Err, ◌++◌, length, refl, sym, ap, ◌∙◌, arith}
use Rattle.std.proofs.lemmas.List.{take_all}
use Rattle.std.proofs.lemmas.Result.{err_from_is_err_and}
use Rattle.mm_value.specs.Views.{value_of}
use Rattle.mm_value.specs.Written.{values_text}
use Rattle.mm_lang.proofs.BufferedPieces.{buffered_none, buffered_same, buffered_stops, buffered_then, first_value, value_more, values_front, values_none}
use Rattle.mm_lang.proofs.write.row_line.RowLines.put_values.Goals as goal

pub returns-then-len-eq0 : goal.returns-then-len-eq0
returns-then-len-eq0 g c = buffered_none tt _ c.requires (values_none (g.R.AsRow.row c.args.row.now) (sym c.len.ensures ∙ c.if-len-eq0.true))

pub returns-in_err-put_value : goal.returns-in_err-put_value
returns-in_err-put_value g c =
    let p = err_from_is_err_and c.from_residual.result c.from_residual.ensures.1 in
    let row = g.R.AsRow.row c.args.row.now in
    let (rest, e) = values_front row 1 in
    buffered_stops rest (e ∙ ap (λ l. l ++ rest) (first_value row (value_of c.value.result) c.value.ensures)) p.1 c.in_err-put_value.ensures

pub loop-i-init : goal.loop-i-init
loop-i-init g c =
    let row = g.R.AsRow.row c.args.row.now in
    record {
      some = omega arith;
      text = buffered_same (sym (first_value row (value_of c.value.result) c.value.ensures)) c.in_ok-put_value.ensures;
    }

pub returns-in_err-put_next : goal.returns-in_err-put_next
returns-in_err-put_next g c =
    let p = err_from_is_err_and c.from_residual-in_err-put_next.result c.from_residual-in_err-put_next.ensures.1 in
    let row = g.R.AsRow.row c.args.row.now in
    let i = c.loop-i.i in
    let more = value_more row i (value_of c.value-in-loop-i.result) c.loop-i.invariant.some c.value-in-loop-i.ensures in
    let (rest, e) = values_front row (i + 1) in
    buffered_stops rest (e ∙ ap (λ l. l ++ rest) more) p.1
    (buffered_then {result = Err c.in_err-put_next.field-0.0} refl c.loop-i.invariant.text c.in_err-put_next.ensures)

pub loop-i-preserved : goal.loop-i-preserved
loop-i-preserved g c =
    let row = g.R.AsRow.row c.args.row.now in
    let i = c.loop-i.i in
    let more = value_more row i (value_of c.value-in-loop-i.result) c.loop-i.invariant.some c.value-in-loop-i.ensures in
    record {
      some = omega arith;
      text = buffered_then {result = Ok c.in_ok-put_next.field-0} more c.loop-i.invariant.text c.in_ok-put_next.ensures;
    }

pub returns : goal.returns
returns g c =
    let row = g.R.AsRow.row c.args.row.now in
    let past : length row ≤ c.loop-i.i = omega (arith, c.loop-i-test.false, c.len-i-end.ensures) in
    buffered_same (ap values_text (take_all c.loop-i.i row past)) c.loop-i.invariant.text
