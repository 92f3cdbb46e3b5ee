-- The entries of a HASH index.
use Rattle.std.specs.Prelude.{ℕ, Option, Some, None, slice_get}
use Rattle.mm_value.specs.Hash.{value_hash}
use Rattle.mm_value.specs.declared.row_ref.RowRef.{RowRef}
use Rattle.mm_value.specs.declared.values.Value.{Value}
use Rattle.mm_row_order.specs.Refs.{Slots, row_at}

-- The hash of an optional value.
abbrev pub hash_of : Option Value → ℕ
hash_of None = 0
hash_of (Some v) = value_hash v

-- The pair that a HASH index contains for a row.
abbrev pub hashed_pair : ℕ → Slots → RowRef → ℕ × RowRef
hashed_pair column now at = (hash_of (slice_get (row_at now at) column), at)
