-- The ends of ranges.
use Rattle.std.specs.Prelude.{ℕ, Option, Some, None}
use Rattle.std.specs.declared.cmp.Ordering.{Ordering}
use Rattle.std.specs.declared.cmp.Ordering.TheVariants.{Equal}
use Rattle.mm_value.specs.declared.row_ref.RowRef.{RowRef}
use Rattle.mm_value.specs.declared.values.Value.{Value}
use Rattle.mm_row_order.specs.Refs.{Slots, place_by}

-- The comparison of a row with the end of a range. Without an end, each row compares equal.
abbrev pub end_place : ℕ → Slots → Option Value → RowRef → Ordering
end_place column now None at = Equal
end_place column now (Some value) at = place_by column now value at
