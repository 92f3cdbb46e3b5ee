use Rattle.std.proofs.Common.{◌+◌, ◌++◌, codes, decimal, refl, sym, ap, ◌∙◌}
use Rattle.std.proofs.lemmas.Result.{err_from_is_err_and}
use Rattle.mm_value.proofs.Writing.{Writes-then, Writes-stops}
use Rattle.mm_lang.specs.QueryText.{separated}
use Rattle.mm_lang.proofs.QueryTexts.{some_order}
use Rattle.mm_lang.proofs.write.query_text.write_order.Goals as goal

pub returns-in_err-put_all-2 : goal.returns-in_err-put_all-2
returns-in_err-put_all-2 g c =
    let p = err_from_is_err_and c.from_residual-in_err-put_all-2.result c.from_residual-in_err-put_all-2.ensures.1 in
    let positions = separated (codes ",") (λ column. decimal (column + 1)) c.args.columns.now in
    Writes-then
    (some_order c.args.tests.now c.args.columns.now (sym c.if-is_empty.ensures)
    ∙ ap (λ space. space ++ (codes "ORDER " ++ positions)) (sym c.space_after_tests.ensures))
    c.in_ok-put_all.ensures (Writes-stops positions refl p.1 c.in_err-put_all-2.ensures)

pub returns : goal.returns
returns g c =
    let positions = separated (codes ",") (λ column. decimal (column + 1)) c.args.columns.now in
    Writes-then
    (some_order c.args.tests.now c.args.columns.now (sym c.if-is_empty.ensures)
    ∙ ap (λ space. space ++ (codes "ORDER " ++ positions)) (sym c.space_after_tests.ensures))
    c.in_ok-put_all.ensures (Writes-then refl c.in_ok-put_all-2.ensures c.write_items.ensures)
