-- Rows that are sorted beside their references.
use Rattle.std.specs.Prelude.{◌≡◌, ℕ, List, Some, slice_get}
use Rattle.std.specs.List.Sorted.{IsSorted}
use Rattle.std.specs.Ordering.{nat_cmp, ordering_then}
use Rattle.std.specs.declared.cmp.Ordering.{Ordering}
use Rattle.mm_value.specs.Order.{value_cmp}
use Rattle.mm_value.specs.declared.row_ref.RowRef.{RowRef}
use Rattle.mm_value.specs.declared.values.Value.{Value}
use Rattle.mm_value.specs.declared.values.Value.TheVariants.{Int}
use Rattle.mm_row_order.specs.Refs.{Slots, IsWide, row_at}
use Rattle.mm_value.specs.Views.{value_of}
use Rattle.mm_row_order.specs.declared.sort_value.Prefixed.{Prefixed}
use Rattle.mm_row_order.specs.declared.sorting.Number.{Number}
use Rattle.mm_row_order.specs.declared.sorting.Sortable.{Sortable}

-- The value of a number.
abbrev pub value_of_number : Number → Value
value_of_number n = Int n.number

-- The value beside a prefix.
abbrev pub value_of_prefixed : Prefixed → Value
value_of_prefixed p = value_of p.value

-- The reference of a row.
abbrev pub ref_of : {V : Type 0} → Sortable V → RowRef
ref_of x = x.at

-- Two rows compare by their values in the column, then by their keys.
abbrev pub values_cmp : {V : Type 0} → (V → Value) → Sortable V → Sortable V → Ordering
values_cmp value a b = ordering_then (value_cmp (value a.value) (value b.value)) (value_cmp (value a.key) (value b.key))

-- Two rows compare by their values in the column, then by their keys, then by their slots.
abbrev pub sortable_cmp : {V : Type 0} → (V → Value) → Sortable V → Sortable V → Ordering
sortable_cmp value a b = ordering_then (values_cmp value a b) (nat_cmp a.at.slot b.at.slot)

-- No row is less than the one before it.
abbrev pub AreSorted : {V : Type 0} → (V → Value) → List (Sortable V) → Type 0
AreSorted value xs = IsSorted (sortable_cmp value) xs

-- The values to sort by are those of the row of the reference, in the column and in the key.
pub record IsOf {V : Type 0} (read : V → Value) (column key : ℕ) (now : Slots) (x : Sortable V) : Type 0 where
  pub wide : IsWide column key now x.at
  pub value_is : slice_get (row_at now x.at) column ≡ Some (read x.value)
  pub key_is : slice_get (row_at now x.at) key ≡ Some (read x.key)
