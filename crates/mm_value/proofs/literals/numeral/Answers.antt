use Rattle.std.proofs.Common.{◌≡◌, ◌∙◌, ◌+◌, ◌-◌, ◌^◌, min, take, ap, subst}
use Rattle.std.specs.Str.Parse.{AllDigits, digits_value}
use Rattle.std.proofs.lemmas.List.{take_all}
use Rattle.mm_value.proofs.Numerals.{AllDigits-other, capped_more, numeral_parts, numeral_from}
use Rattle.mm_value.proofs.literals.numeral.Goals as goal

pub returns-then-not-is_ascii_digit : goal.returns-then-not-is_ascii_digit
returns-then-not-is_ascii_digit c h =
    AllDigits-other c.args.digits.now c.loop-digit.digit-index c.loop-digit-test.true c.if-not-is_ascii_digit.ensures.cases
    (numeral_parts c.args.digits.now h).1

pub loop-digit-preserved : goal.loop-digit-preserved
loop-digit-preserved c =
    let so_far = c.loop-digit.invariant in
    let next = c.saturating_add-number.ensures ∙ ap (λ d. min (c.saturating_mul.result + d) (2 ^ 64 - 1)) c.from.ensures in
    let more = capped_more c.args.digits.now c.loop-digit.digit-index c.loop-digit.number c.saturating_mul.result c.saturating_add-number.result
    c.loop-digit-test.true c.if-not-is_ascii_digit.ensures.cases so_far.1 so_far.2 c.saturating_mul.ensures next in
    (so_far.0, more.0, more.1)

pub returns : goal.returns
returns c =
    let so_far = c.loop-digit.invariant in
    let all : take c.loop-digit.digit-index c.args.digits.now ≡ c.args.digits.now = take_all c.loop-digit.digit-index c.args.digits.now
    c.loop-digit-test.false in (
      numeral_from c.args.digits.now so_far.0 (subst (AllDigits 10) all so_far.1),
      so_far.2 ∙ ap (λ ds. min (digits_value 10 ds) (2 ^ 64 - 1)) all,
    )
