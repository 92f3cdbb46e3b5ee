use Rattle.mm_value.specs.Views.{value_of}
use Rattle.mm_partition.specs.Places.{slot_at}
use Rattle.mm_row_order.specs.InOrder.{HasColumn}
use Rattle.mm_indexed.specs.Reads.{has_value}
use Rattle.mm_indexed.proofs.Matches.{Keeping}
use Rattle.mm_indexed.proofs.indexes.hash_reads.keep_matches.Given as goal

abbrev pub invariant-loop-i : goal.invariant-loop-i
invariant-loop-i l =
    Keeping (has_value l.column (slot_at l.rows) (value_of l.value)) (HasColumn l.column (slot_at l.rows)) l.from l.fn.out.items l.out.items l.kept l.i
