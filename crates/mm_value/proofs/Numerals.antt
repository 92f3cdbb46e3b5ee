-- Decimal digits, and reading them.
use Rattle.std.proofs.Common.{◌≡◌, ◌<◌, ◌-◌, ◌+◌, ◌*◌, ◌^◌, ℕ, min, true, ltb, List, length, get_or, take, arith, sym, ap, ◌∙◌, rules}
use Rattle.std.specs.List.{list_all}
use Rattle.std.specs.Char.{digit_value, is_ascii_digit, IsAsciiDigit, IsNotAsciiDigit}
use Rattle.std.specs.Str.Parse.{AllDigits, digits_value}
use Rattle.std.proofs.lemmas.Int.Digits.{digits_value_more, digits_more}
use Rattle.std.proofs.lemmas.Str.{digit_value_digit}
use Rattle.std.proofs.lemmas.Str.Parse.{IsNumeralModel, digit_at, numerals_by_value}
use Rattle.std.proofs.lemmas.Bool.{and_parts, and_from, ltb-true, lt-ltb}
use Rattle.mm_value.specs.Literal.{IsNumeral}

digits : IsNumeralModel (λ ds. list_all is_ascii_digit ds ≡ true) (digits_value 10)
digits = numerals_by_value _ (search rules)

-- the test of a numeral means that there is a digit and that each byte is one
pub numeral_parts : (ds : List ℕ) → IsNumeral ds → (0 < length ds) × AllDigits 10 ds
numeral_parts ds h = let p = and_parts (ltb 0 (length ds)) (list_all is_ascii_digit ds) h in (ltb-true 0 (length ds) p.0, digits.to ds p.1)

pub numeral_from : (ds : List ℕ) → 0 < length ds → AllDigits 10 ds → IsNumeral ds
numeral_from ds some all = and_from (ltb 0 (length ds)) (list_all is_ascii_digit ds) (lt-ltb 0 (length ds) some) (digits.from ds all)

-- no numeral contains a byte that is not a digit
pub AllDigits-other : (ds : List ℕ) (i : ℕ) → i < length ds → IsNotAsciiDigit (get_or ds i 0) → AllDigits 10 ds → ⊥
AllDigits-other ds i lt other all = let digit = digit_at ds i all lt in omega (arith, digit, other)

-- a number capped at the maximum, one digit longer
capped : (v d m n : ℕ) → m ≡ min v (2 ^ 64 - 1) → n ≡ min (min (m * 10) (2 ^ 64 - 1) + d) (2 ^ 64 - 1) → n ≡ min (v * 10 + d) (2 ^ 64 - 1)
capped v d m n is next = omega arith

pub capped_more : (ds : List ℕ) (i m p n : ℕ) → i < length ds → IsAsciiDigit (get_or ds i 0) → AllDigits 10 (take i ds)
    → m ≡ min (digits_value 10 (take i ds)) (2 ^ 64 - 1) → p ≡ min (m * 10) (2 ^ 64 - 1) → n ≡ min (p + (get_or ds i 0 - 48)) (2 ^ 64 - 1)
    → AllDigits 10 (take (i + 1) ds) × (n ≡ min (digits_value 10 (take (i + 1) ds)) (2 ^ 64 - 1))
capped_more ds i m p n lt digit all is times next =
    let worth : get_or ds i 0 - 48 ≡ digit_value (get_or ds i 0) = let w = digit_value_digit (get_or ds i 0) digit in omega (arith, w) in
    let small : digit_value (get_or ds i 0) < 10 = let w = digit_value_digit (get_or ds i 0) digit in omega (arith, w, digit) in
    let value : digits_value 10 (take i ds) * 10 + (get_or ds i 0 - 48) ≡ digits_value 10 (take (i + 1) ds) =
    ap (λ d. digits_value 10 (take i ds) * 10 + d) worth ∙ sym (digits_value_more 10 ds i lt) in (
      digits_more 10 ds i lt all small,
      capped (digits_value 10 (take i ds)) (get_or ds i 0 - 48) m n is (next ∙ ap (λ q. min (q + (get_or ds i 0 - 48)) (2 ^ 64 - 1)) times)
          ∙ ap (λ v. min v (2 ^ 64 - 1)) value,
    )
