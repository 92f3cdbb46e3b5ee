use Rattle.std.proofs.Common.{◌≡◌, ◌-◌, ◌^◌, ◌<◌, min, length, take}
use Rattle.std.specs.Str.Parse.{AllDigits, digits_value}
use Rattle.mm_value.proofs.literals.numeral.Given as goal

-- the value of the digits so far, or the maximum of 64 bits
abbrev pub invariant-loop-digit : goal.invariant-loop-digit
invariant-loop-digit l =
    (0 < length l.digits) × AllDigits 10 (take l.digit-index l.digits) × (l.number ≡ min (digits_value 10 (take l.digit-index l.digits)) (2 ^ 64 - 1))
