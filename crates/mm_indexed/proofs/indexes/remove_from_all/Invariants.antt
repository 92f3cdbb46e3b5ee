use Rattle.mm_partition.specs.Places.{slot_at}
use Rattle.mm_indexed.specs.Index.{TurnedTo}
use Rattle.mm_indexed.specs.Stays.{Removes}
use Rattle.mm_indexed.proofs.indexes.remove_from_all.Given as goal

abbrev pub invariant-loop-index : goal.invariant-loop-index
invariant-loop-index l = TurnedTo (Removes l.key (slot_at l.rows) l.at l.other) l.index-index l.fn.indexes.items l.index-items
