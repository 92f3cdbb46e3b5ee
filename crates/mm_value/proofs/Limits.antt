-- The meaning of the test of a value's limit.
use Rattle.std.proofs.Common.{◌≤◌, ℕ, ◌^◌, List, length, arith}
use Rattle.std.specs.Int.{w64}
use Rattle.std.specs.Int.RustNames.{FitsSigned}
use Rattle.std.proofs.Math.IntN.{ℤ, pos, negsuc}
use Rattle.std.proofs.lemmas.Bool.{lt-ltb, ltb-true, le-leb, leb-true}
use Rattle.std.proofs.lemmas.Int.{ints}
use Rattle.mm_value.specs.declared.values.Value.TheVariants.{Int, Text}
use Rattle.mm_value.specs.Literal.{IsWithinLimit}

pub int_within : (z : ℤ) → FitsSigned w64 z → IsWithinLimit (Int z)
int_within (pos n) h = lt-ltb n (2 ^ 63) (omega (arith, ints, h))
int_within (negsuc n) h = lt-ltb n (2 ^ 63) (omega (arith, ints, h))

pub within_int : (z : ℤ) → IsWithinLimit (Int z) → FitsSigned w64 z
within_int (pos n) h = let lt = ltb-true n (2 ^ 63) h in omega (arith, ints)
within_int (negsuc n) h = let lt = ltb-true n (2 ^ 63) h in omega (arith, ints)

pub text_within : (text : List ℕ) → length text ≤ 64 → IsWithinLimit (Text text)
text_within text h = le-leb (length text) 64 h

pub within_text : (text : List ℕ) → IsWithinLimit (Text text) → length text ≤ 64
within_text text h = leb-true (length text) 64 h
