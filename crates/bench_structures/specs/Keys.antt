-- References by the keys of their slots.
use Rattle.std.specs.Prelude.{ℕ, List, slice_index_or}
use Rattle.std.specs.Ordering.{nat_cmp, ordering_then}
use Rattle.std.specs.declared.cmp.Ordering.{Ordering}
use Rattle.mm_value.specs.declared.row_ref.RowRef.{RowRef}

-- the key of a reference, or 0 if it has none
abbrev pub key_in : List ℕ → RowRef → ℕ
key_in keys at = slice_index_or keys at.slot 0

-- the order by key, and for equal keys by slot
abbrev pub by_key : List ℕ → RowRef → RowRef → Ordering
by_key keys a b = ordering_then (nat_cmp (key_in keys a) (key_in keys b)) (nat_cmp a.slot b.slot)
