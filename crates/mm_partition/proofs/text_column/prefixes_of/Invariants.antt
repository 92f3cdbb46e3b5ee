use Rattle.std.proofs.Common.{◌≡◌, map, take}
use Rattle.std.specs.Vec.{vec_capacity, vec_len}
use Rattle.mm_partition.specs.TextCells.{prefix_of}
use Rattle.mm_partition.proofs.text_column.prefixes_of.Given as goal

-- the texts so far have their prefixes
abbrev pub invariant-loop-text : goal.invariant-loop-text
invariant-loop-text l = record {
  items : l.prefixes.items ≡ map prefix_of (take l.text-index l.texts);
  len : vec_len l.prefixes ≡ l.text-index;
  capacity : vec_capacity l.prefixes ≡ l.room;
}
