use Rattle.std.proofs.Common.{◌≡◌, take}
use Rattle.std.specs.Prelude.{map}
use Rattle.std.specs.List.{All}
use Rattle.mm_partition.specs.Places.{slot_at}
use Rattle.mm_row_order.specs.Sorting.{IsOf, ref_of, value_of_number}
use Rattle.mm_row_order.proofs.sorting.numbered.Given as goal

-- the rows of the references before the next are listed
abbrev pub invariant-loop-at : goal.invariant-loop-at
invariant-loop-at l = record {
  of : All (IsOf value_of_number l.column l.key (slot_at l.rows)) l.list.items;
  refs : map ref_of l.list.items ≡ take l.at-index l.refs;
}
