-- Probes: positions in an order, and the entries between two of them.
use Rattle.std.specs.Prelude.{◌≡◌, ◌≤◌, Bool, ◌&&◌, List, filter}
use Rattle.std.specs.Ordering.{ordering_index, is_le, is_ge}
use Rattle.std.specs.declared.cmp.Ordering.{Ordering}
use Rattle.std.specs.declared.cmp.Ordering.TheVariants.{Less}
use Rattle.mm_value.specs.declared.row_ref.RowRef.{RowRef}

-- The probe agrees with an order. It covers all that the order covers. If a is less than b, the result for a is not after that for b, where
-- Less is before Equal, and Equal before Greater.
pub record IsMonotone (Covers : RowRef → Type 0) (cmp : RowRef → RowRef → Ordering) (Reaches : RowRef → Type 0) (place : RowRef → Ordering) : Type 0 where
  pub reaches : (a : RowRef) → Covers a → Reaches a
  pub rises : (a b : RowRef) → Covers a → Covers b → cmp a b ≡ Less → ordering_index (place a) ≤ ordering_index (place b)

-- the reference is not before the position of the first probe, nor after that of the second
abbrev pub is_between : (RowRef → Ordering) → (RowRef → Ordering) → RowRef → Bool
is_between low high a = is_ge (low a) && is_le (high a)

-- the references of a list between two probes, in the order of the list
abbrev pub entries_between : (RowRef → Ordering) → (RowRef → Ordering) → List RowRef → List RowRef
entries_between low high refs = filter (is_between low high) refs
