-- The bound of an insertion.
use Rattle.std.specs.Prelude.{◌≡◌, Option, Some, None}
use Rattle.std.specs.declared.cmp.Ordering.{Ordering}
use Rattle.std.specs.declared.cmp.Ordering.TheVariants.{Less}
use Rattle.mm_value.specs.declared.row_ref.RowRef.{RowRef}

-- There is a bound, and the reference is before it.
abbrev pub LiesBelow : (RowRef → RowRef → Ordering) → RowRef → Option RowRef → Type 0
LiesBelow cmp added None = ⊥
LiesBelow cmp added (Some bound) = cmp added bound ≡ Less
