use Rattle.std.proofs.Common.{◌++◌, refl, sym, ap}
use Rattle.std.proofs.lemmas.Result.{err_from_is_err_and}
use Rattle.mm_value.proofs.Writing.{Writes-then, Writes-stops}
use Rattle.mm_query.specs.Placing.{mapped_operand}
use Rattle.mm_lang.specs.QueryText.{named_field, operand_text}
use Rattle.mm_lang.proofs.write.query_text.FieldNames.write_test.Goals as goal

pub returns-in_err-put_all : goal.returns-in_err-put_all
returns-in_err-put_all g c =
    let p = err_from_is_err_and c.from_residual-in_err-put_all.result c.from_residual-in_err-put_all.ensures.1 in
    let name = named_field c.args.self.now.catalog.now c.args.self.now.from.now in
    let right = operand_text (mapped_operand name c.args.test.now.right) in
    Writes-then refl c.in_ok-write_field.ensures
    (Writes-stops right (ap (λ symbol. symbol ++ right) (sym c.comparison_bytes.ensures)) p.1 c.in_err-put_all.ensures)

pub returns : goal.returns
returns g c =
    let name = named_field c.args.self.now.catalog.now c.args.self.now.from.now in
    let right = operand_text (mapped_operand name c.args.test.now.right) in
    Writes-then refl c.in_ok-write_field.ensures
    (Writes-then (ap (λ symbol. symbol ++ right) (sym c.comparison_bytes.ensures)) c.in_ok-put_all.ensures c.write_operand.ensures)
