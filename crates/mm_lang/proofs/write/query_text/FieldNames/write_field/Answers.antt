use Rattle.std.proofs.Common.{◌∷◌, ◌++◌, refl, sym, ap}
use Rattle.std.proofs.lemmas.Result.{err_from_is_err_and}
use Rattle.mm_value.proofs.Writing.{Writes-then, Writes-stops}
use Rattle.mm_lang.specs.QueryText.{named_field}
use Rattle.mm_lang.proofs.write.query_text.FieldNames.write_field.Goals as goal

pub returns-in_err-put_all-2 : goal.returns-in_err-put_all-2
returns-in_err-put_all-2 g c =
    let p = err_from_is_err_and c.from_residual-in_err-put_all-2.result c.from_residual-in_err-put_all-2.ensures.1 in
    let column = (named_field c.args.self.now.catalog.now c.args.self.now.from.now c.args.field.now).column in
    Writes-then (ap (λ alias. alias ++ 46 ∷ column) (sym c.alias_of.ensures)) c.in_ok-put_all.ensures (Writes-stops column refl p.1 c.in_err-put_all-2.ensures)

pub returns : goal.returns
returns g c =
    Writes-then (λ i. sym c.alias_of.ensures i ++ 46 ∷ sym c.name_of.ensures i) c.in_ok-put_all.ensures
    (Writes-then refl c.in_ok-put_all-2.ensures c.put_all-3.ensures)
