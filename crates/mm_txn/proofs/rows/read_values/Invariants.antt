use Rattle.std.proofs.Common.{◌≡◌, map, take}
use Rattle.mm_partition.specs.Views.{viewed}
use Rattle.mm_value.specs.Views.{value_of}
use Rattle.mm_txn.proofs.rows.read_values.Given as goal

-- the values so far were read
abbrev pub invariant-loop-i : goal.invariant-loop-i
invariant-loop-i l = map value_of l.values.items ≡ take l.i (viewed l.row)
