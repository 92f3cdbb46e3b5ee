-- The order of most tests.
use Rattle.std.specs.Prelude.{List}
use Rattle.std.specs.Ordering.{nat_cmp}
use Rattle.std.specs.declared.cmp.Ordering.{Ordering}
use Rattle.mm_value.specs.declared.row_ref.RowRef.{RowRef}
use Rattle.mm_order.specs.Order.{IsOrdered}

-- References are compared by their slots.
abbrev pub by_place : RowRef → RowRef → Ordering
by_place a b = nat_cmp a.slot b.slot

-- The references of a list are in ascending order of their slots.
abbrev pub IsByPlace : List RowRef → Type 0
IsByPlace refs = IsOrdered (λ _. Unit {0}) by_place refs
