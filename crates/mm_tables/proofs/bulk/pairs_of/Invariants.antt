use Rattle.std.proofs.Common.{◌≡◌, ◌≤◌, length, map, take, vec_capacity}
use Rattle.mm_tables.specs.Commands.{update}
use Rattle.mm_tables.proofs.bulk.pairs_of.Given as goal

abbrev pub invariant-loop-edit : goal.invariant-loop-edit
invariant-loop-edit l = record {
  pairs : take l.edit-index l.edits ≡ map update l.pairs.items;
  capacity : length l.edits ≤ vec_capacity l.pairs;
}
