use Rattle.std.proofs.Common.{◌≡◌, ◌≤◌, ◌+◌, ◌-◌, ◌++◌, Err, Ok, Some, get_or, length, map, slice_get, refl, sym, ap, ◌∙◌, arith}
use Rattle.std.proofs.lemmas.List.{take_all}
use Rattle.std.proofs.lemmas.Option.{slice_get-get_or, slice_get_read}
use Rattle.std.proofs.lemmas.Result.{err_from_is_err_and}
use Rattle.mm_value.proofs.Writing.{Writes-then, Writes-stops}
use Rattle.mm_lang.specs.QueryText.{named_field, tests_text}
use Rattle.mm_lang.proofs.ListingTexts.{Writes-as}
use Rattle.mm_lang.proofs.QueryTexts.{first_test, named_test, test_more, tests_front}
use Rattle.mm_lang.proofs.write.query_text.FieldNames.write_test_list.Goals as goal

pub returns-in_err-write_next_test : goal.returns-in_err-write_next_test
returns-in_err-write_next_test g c =
    let p = err_from_is_err_and c.from_residual-in_err-write_next_test.result c.from_residual-in_err-write_next_test.ensures.1 in
    let name = named_field c.args.self.now.catalog.now c.args.self.now.from.now in
    let tests = c.args.tests.now in
    let i = c.loop-i.i in
    let before = get_or tests (i - 1) c.index-tests-i.result in
    let test = c.index-tests-i-in-loop-i.result in
    let is_before : slice_get tests (i - 1) ≡ Some before = slice_get-get_or tests (i - 1) c.index-tests-i.result (omega arith) in
    let is : slice_get tests i ≡ Some test = slice_get_read tests (length tests) i test refl (omega arith) c.index-tests-i-in-loop-i.is in
    let more = test_more name tests i before test c.loop-i.invariant.some is_before is in
    let (rest, e) = tests_front name tests (i + 1) in
    Writes-stops rest (e ∙ ap (λ l. l ++ rest) more) p.1
    (Writes-then {result = Err c.in_err-write_next_test.field-0.0} refl c.loop-i.invariant.text c.in_err-write_next_test.ensures)

pub loop-i-init : goal.loop-i-init
loop-i-init g c =
    let name = named_field c.args.self.now.catalog.now c.args.self.now.from.now in
    record {
      some = omega arith;
      text = Writes-as (first_test name c.args.tests.now c.in-Some.first.now (sym c.in-Some.ensures.value)) c.in_ok-write_test.ensures;
    }

pub loop-i-preserved : goal.loop-i-preserved
loop-i-preserved g c =
    let name = named_field c.args.self.now.catalog.now c.args.self.now.from.now in
    let tests = c.args.tests.now in
    let i = c.loop-i.i in
    let before = get_or tests (i - 1) c.index-tests-i.result in
    let test = c.index-tests-i-in-loop-i.result in
    let is_before : slice_get tests (i - 1) ≡ Some before = slice_get-get_or tests (i - 1) c.index-tests-i.result (omega arith) in
    let is : slice_get tests i ≡ Some test = slice_get_read tests (length tests) i test refl (omega arith) c.index-tests-i-in-loop-i.is in
    let more = test_more name tests i before test c.loop-i.invariant.some is_before is in
    record {
      some = omega arith;
      text = Writes-then {result = Ok c.in_ok-write_next_test.field-0} more c.loop-i.invariant.text c.in_ok-write_next_test.ensures;
    }

pub returns : goal.returns
returns g c =
    let name = named_field c.args.self.now.catalog.now c.args.self.now.from.now in
    let tests = c.args.tests.now in
    let past : length tests ≤ c.loop-i.i = omega (arith, c.loop-i-test.false) in
    Writes-as (ap (λ l. tests_text (map (named_test name) l)) (sym (take_all c.loop-i.i tests past))) c.loop-i.invariant.text
