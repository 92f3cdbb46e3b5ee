use Rattle.std.proofs.Common.{◌≡◌, ◌≤◌, ◌++◌}
use Rattle.std.specs.List.{filter}
use Rattle.mm_value.specs.Views.{value_of}
use Rattle.mm_partition.specs.Places.{slot_at}
use Rattle.mm_indexed.specs.Reads.{has_value}
use Rattle.mm_indexed.proofs.indexes.hash_reads.find_matches.Given as goal

-- of the references so far, those of the rows that have the value were found
abbrev pub invariant-loop-at : goal.invariant-loop-at
invariant-loop-at l = record {
  split : l.initial.at-iterator ≡ l.yielded ++ l.at-iterator;
  found : l.found.items ≡ filter (has_value l.column (slot_at l.rows) (value_of l.value)) l.yielded;
  room : 4 ≤ l.found.capacity;
}
