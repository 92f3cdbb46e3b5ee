use Rattle.std.proofs.Common.{◌++◌, codes, refl, sym, ap}
use Rattle.std.proofs.lemmas.Result.{err_from_is_err_and}
use Rattle.mm_value.proofs.Writing.{Writes-then, Writes-stops}
use Rattle.mm_query.specs.Placing.{mapped_atom}
use Rattle.mm_lang.specs.QueryText.{named_field, test_text}
use Rattle.mm_lang.proofs.write.query_text.FieldNames.write_next_test.Goals as goal

pub returns-in_err-put_all-2 : goal.returns-in_err-put_all-2
returns-in_err-put_all-2 g c =
    let p = err_from_is_err_and c.from_residual-in_err-put_all-2.result c.from_residual-in_err-put_all-2.ensures.1 in
    let text = test_text (mapped_atom (named_field c.args.self.now.catalog.now c.args.self.now.from.now) c.args.test.now) in
    Writes-then (ap (λ space. space ++ (codes "AND " ++ text)) (sym c.space_after.ensures)) c.in_ok-put_all.ensures
    (Writes-stops text refl p.1 c.in_err-put_all-2.ensures)

pub returns : goal.returns
returns g c =
    let text = test_text (mapped_atom (named_field c.args.self.now.catalog.now c.args.self.now.from.now) c.args.test.now) in
    Writes-then (ap (λ space. space ++ (codes "AND " ++ text)) (sym c.space_after.ensures)) c.in_ok-put_all.ensures
    (Writes-then refl c.in_ok-put_all-2.ensures c.write_test.ensures)
