use Rattle.std.proofs.Common.{Ok, Err, ◌++◌, [], ◌∷◌, drop, refl, sym, ap, ◌∙◌}
use Rattle.std.proofs.lemmas.List.{take_rest}
use Rattle.std.proofs.lemmas.Result.{err_from_is_err_and}
use Rattle.mm_value.proofs.Quotes.{doubled_more, doubled_unfound}
use Rattle.mm_value.specs.Literal.{doubled}
use Rattle.mm_lang.proofs.BufferedPieces.{buffered_none, buffered_stops, buffered_then}
use Rattle.mm_lang.proofs.write.row_line.RowLines.put_doubled.Goals as goal

pub loop-quote-init : goal.loop-quote-init
loop-quote-init g c = ([], refl, buffered_none tt _ c.requires refl)

pub returns-in_err-put_to_quote : goal.returns-in_err-put_to_quote
returns-in_err-put_to_quote g c =
    let p = err_from_is_err_and c.from_residual.result c.from_residual.ensures.1 in
    let so_far = c.loop-quote.invariant in
    let e = doubled_more c.args.text.now so_far.0 c.loop-quote.rest.now c.split_at.result.0.now c.split_at.result.1.now c.in-Some.quote so_far.1
    c.in-Some.ensures c.split_at.ensures.front c.split_at.ensures.back in
    buffered_stops (doubled (drop 1 c.split_at.result.1.now)) e p.1
    (buffered_then {result = Err c.in_err-put_to_quote.field-0.0} refl so_far.2 c.in_err-put_to_quote.ensures)

pub loop-quote-preserved : goal.loop-quote-preserved
loop-quote-preserved g c =
    let so_far = c.loop-quote.invariant in
    let written = so_far.0 ++ (c.split_at.result.0.now ++ 39 ∷ 39 ∷ []) in
    let e = doubled_more c.args.text.now so_far.0 c.loop-quote.rest.now c.split_at.result.0.now c.split_at.result.1.now c.in-Some.quote so_far.1
    c.in-Some.ensures c.split_at.ensures.front c.split_at.ensures.back in (
      written,
      e ∙ ap (λ l. written ++ doubled l) (sym (take_rest c.split_at.result.1.now 1)),
      buffered_then {result = Ok c.in_ok-put_to_quote.field-0} refl so_far.2 c.in_ok-put_to_quote.ensures,
    )

pub returns : goal.returns
returns g c =
    let so_far = c.loop-quote.invariant in
    buffered_then (so_far.1 ∙ ap (λ l. so_far.0 ++ l) (doubled_unfound c.loop-quote.rest.now c.in_default.ensures)) so_far.2 c.put.ensures
