use Rattle.std.proofs.Common.{map, sym}
use Rattle.std.proofs.lemmas.Result.{err_from_is_err_and}
use Rattle.mm_value.proofs.Writing.{Writes-then, Writes-stops}
use Rattle.mm_query.specs.Placing.{mapped_atom}
use Rattle.mm_lang.specs.QueryText.{named_field, tests_text}
use Rattle.mm_lang.proofs.QueryTexts.{some_tests}
use Rattle.mm_lang.proofs.write.query_text.FieldNames.write_tests.Goals as goal

pub returns-in_err-put_all : goal.returns-in_err-put_all
returns-in_err-put_all g c =
    let p = err_from_is_err_and c.from_residual.result c.from_residual.ensures.1 in
    let name = named_field c.args.self.now.catalog.now c.args.self.now.from.now in
    Writes-stops (tests_text (map (mapped_atom name) c.args.tests.now)) (some_tests name c.args.tests.now (sym c.if-is_empty.ensures)) p.1
    c.in_err-put_all.ensures

pub returns : goal.returns
returns g c =
    let name = named_field c.args.self.now.catalog.now c.args.self.now.from.now in
    Writes-then (some_tests name c.args.tests.now (sym c.if-is_empty.ensures)) c.in_ok-put_all.ensures c.write_test_list.ensures
