-- Prefixes of values: numbers that preserve the order of the values.
use Rattle.std.specs.Prelude.{ℕ, zero, suc, ◌+◌, ◌-◌, ◌*◌, ◌/◌, ◌^◌, min, List, [], ◌∷◌}
use Rattle.std.proofs.Math.IntN.{ℤ, pos, negsuc}
use Rattle.mm_value.specs.declared.values.Value.{Value}
use Rattle.mm_value.specs.declared.values.Value.TheVariants.{Int, Text}

-- The prefix of a whole number n is n + 2^62, where n is clamped to the range from -2^62 to 2^62 - 1.
abbrev pub int_prefix : ℤ → ℕ
int_prefix (pos n) = 2 ^ 62 + min n (2 ^ 62 - 1)
int_prefix (negsuc n) = 2 ^ 62 - 1 - n

-- The number of the first k bytes in big-endian, where a missing byte is 0. It is at most the greatest number of k bytes, which matters
-- only for bytes above 255.
abbrev pub big_endian : ℕ → List ℕ → ℕ
big_endian zero bytes = 0
big_endian (suc k) [] = 0
big_endian (suc k) (byte ∷ bytes) = min (byte * 256 ^ k + big_endian k bytes) (256 ^ suc k - 1)

-- A whole number is below 2^63. A text has 2^63 plus half of the number of its first 8 bytes.
abbrev pub order_prefix : Value → ℕ
order_prefix (Int z) = int_prefix z
order_prefix (Text bytes) = 2 ^ 63 + big_endian 8 bytes / 2
