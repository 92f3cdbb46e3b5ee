use Rattle.std.specs.Option.{option_map}
use Rattle.mm_value.specs.Views.{value_of}
use Rattle.mm_partition.specs.Places.{slot_at}
use Rattle.mm_row_order.proofs.Seeks.{IsMonotone-at_end}
use Rattle.mm_row_order.proofs.tree_reads.copy_range.Goals as goal

pub copy_range-requires-clause-low : goal.copy_range-requires-clause-low
copy_range-requires-clause-low c =
    IsMonotone-at_end c.args.column c.args.key (slot_at c.args.rows.now) (option_map value_of c.args.ends.low)

pub copy_range-requires-clause-high : goal.copy_range-requires-clause-high
copy_range-requires-clause-high c =
    IsMonotone-at_end c.args.column c.args.key (slot_at c.args.rows.now) (option_map value_of c.args.ends.high)
