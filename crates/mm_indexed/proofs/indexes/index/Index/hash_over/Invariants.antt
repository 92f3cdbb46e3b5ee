use Rattle.std.proofs.Common.{◌+◌, ◌≤◌, length, take}
use Rattle.mm_partition.specs.Places.{slot_at}
use Rattle.mm_schema.specs.declared.index.IndexKind.TheVariants as kind
use Rattle.mm_indexed.specs.Index.{IsOn, Keeps, spare_of}
use Rattle.mm_indexed.proofs.indexes.index.Index.hash_over.Given as goal

-- the index contains the references so far, and has capacity for the others
abbrev pub invariant-loop-at : goal.invariant-loop-at
invariant-loop-at l = record {
  keeps : Keeps l.key (slot_at l.rows) (take l.at-index l.refs) l.index;
  on : IsOn l.column kind.Hash l.index;
  room : length l.refs ≤ l.at-index + spare_of l.index;
}
