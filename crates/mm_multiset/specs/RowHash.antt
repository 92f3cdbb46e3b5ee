-- The hash of a row.
use Rattle.std.specs.Prelude.{ℕ, ◌*◌, ◌/◌, ◌%◌, ◌^◌, List, fold}
use Rattle.std.specs.Int.Bits.{bit_xor}
use Rattle.mm_value.specs.Hash.{value_hash}
use Rattle.mm_value.specs.declared.values.Value.{Value}

-- The hash after one more value: an exclusive or with the value's hash, and then a product.
abbrev pub with_value : ℕ → Value → ℕ
with_value hash value = (bit_xor hash (value_hash value) * 11400714819323198485) % 2 ^ 64

-- The number with its high half combined into its low half.
abbrev pub folded : ℕ → ℕ
folded hash = bit_xor hash (hash / 2 ^ 32)

-- The hash of the values from left to right, folded.
unfoldable pub row_hash : List Value → ℕ
row_hash row = folded (fold with_value 0 row)
