use Rattle.mm_partition.specs.Places.{slot_at}
use Rattle.mm_indexed.specs.Index.{TurnedTo}
use Rattle.mm_indexed.specs.Stays.{Inserts}
use Rattle.mm_indexed.proofs.indexes.insert_into_all.Given as goal

abbrev pub invariant-loop-index : goal.invariant-loop-index
invariant-loop-index l = TurnedTo (Inserts l.key (slot_at l.rows) l.at l.other) l.index-index l.fn.indexes.items l.index-items
