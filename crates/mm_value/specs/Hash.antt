-- The hash of a value: FNV-1a of 64 bits (Fowler, Noll and Vo).
use Rattle.std.specs.Prelude.{ℕ, ◌*◌, ◌%◌, ◌^◌, List, fold}
use Rattle.std.specs.Int.{w64, to_be_bytes, cast_unsigned}
use Rattle.std.specs.Int.Bits.{bit_xor}
use Rattle.mm_value.specs.declared.values.Value.{Value}
use Rattle.mm_value.specs.declared.values.Value.TheVariants.{Int, Text}

-- One step: exclusive or with the byte, and multiplication by the prime.
abbrev pub with_byte : ℕ → ℕ → ℕ
with_byte hash byte = (bit_xor hash byte * 1099511628211) % 2 ^ 64

-- The hash of bytes, starting with the offset basis.
abbrev pub bytes_hash : List ℕ → ℕ
bytes_hash bytes = fold with_byte 14695981039346656037 bytes

-- A whole number is hashed as its 8 big-endian bytes in two's complement, a text as its bytes.
abbrev pub value_hash : Value → ℕ
value_hash (Int z) = bytes_hash (to_be_bytes w64 (cast_unsigned w64 z))
value_hash (Text text) = bytes_hash text
