use Rattle.std.proofs.Common.{◌∷◌, Ok, true, false, refl, ap, ◌∙◌}
use Rattle.std.proofs.lemmas.Result.{err_from_is_err_and}
use Rattle.mm_value.specs.declared.values.Value.TheVariants.{Text}
use Rattle.mm_value.proofs.Outcomes.{IsSigned, text_read, text_refused, int_refused, clauses, clauses_passed, clauses_number}
use Rattle.mm_value.proofs.literals.read_literal.Goals as goal

pub returns-in_err-read_text : goal.returns-in_err-read_text
returns-in_err-read_text c =
    let p = err_from_is_err_and c.from_residual.result c.from_residual.ensures.1 in
    let e = c.in-Some.ensures.cases.0 ∙ ap (λ x. x ∷ c.in-Some.rest.now) c.if-first-eq39.true in
    clauses_passed c.args.bytes.now c.from_residual.result c.in_err-read_text.field-0.0 p.0 p.1 p.2
    (text_refused c.args.bytes.now c.in-Some.rest.now c.in_err-read_text.field-0.0 e c.in_err-read_text.ensures)

pub returns-in_err-read_int : goal.returns-in_err-read_int
returns-in_err-read_int c =
    let p = err_from_is_err_and c.from_residual-in_err-read_int.result c.from_residual-in_err-read_int.ensures.1 in
    let e = c.in-Some.ensures.cases.0 ∙ ap (λ x. x ∷ c.in-Some.rest.now) c.if-first-eq45.true in
    clauses_passed c.args.bytes.now c.from_residual-in_err-read_int.result c.in_err-read_int.field-0.0 p.0 p.1 p.2
    (int_refused true c.args.bytes.now c.in-Some.rest.now c.in_err-read_int.field-0.0 e c.in_err-read_int.ensures)

pub returns-in_err-read_int-2 : goal.returns-in_err-read_int-2
returns-in_err-read_int-2 c =
    let p = err_from_is_err_and c.from_residual-in_err-read_int-2.result c.from_residual-in_err-read_int-2.ensures.1 in
    let e : IsSigned false c.args.bytes.now
    c.args.bytes.now = (refl, c.in-Some.first.now, c.in-Some.rest.now, c.in-Some.ensures.cases.0, c.if-first-eq39.false, c.if-first-eq45.false) in
    clauses_passed c.args.bytes.now c.from_residual-in_err-read_int-2.result c.in_err-read_int-2.field-0.0 p.0 p.1 p.2
    (int_refused false c.args.bytes.now c.args.bytes.now c.in_err-read_int-2.field-0.0 e c.in_err-read_int-2.ensures)

pub returns-in_ok-read_text : goal.returns-in_ok-read_text
returns-in_ok-read_text c =
    let e = c.in-Some.ensures.cases.0 ∙ ap (λ x. x ∷ c.in-Some.rest.now) c.if-first-eq39.true in
    clauses c.args.bytes.now (Ok (Text c.in_ok-read_text.field-0))
    (text_read c.args.bytes.now c.in-Some.rest.now c.in_ok-read_text.field-0 e c.in_ok-read_text.ensures)

pub returns-in_ok-read_int : goal.returns-in_ok-read_int
returns-in_ok-read_int c =
    let e = c.in-Some.ensures.cases.0 ∙ ap (λ x. x ∷ c.in-Some.rest.now) c.if-first-eq45.true in
    clauses_number true c.args.bytes.now c.in-Some.rest.now c.in_ok-read_int.field-0 e c.in_ok-read_int.ensures

pub returns-in_ok-read_int-2 : goal.returns-in_ok-read_int-2
returns-in_ok-read_int-2 c =
    let e : IsSigned false c.args.bytes.now
    c.args.bytes.now = (refl, c.in-Some.first.now, c.in-Some.rest.now, c.in-Some.ensures.cases.0, c.if-first-eq39.false, c.if-first-eq45.false) in
    clauses_number false c.args.bytes.now c.args.bytes.now c.in_ok-read_int-2.field-0 e c.in_ok-read_int-2.ensures
