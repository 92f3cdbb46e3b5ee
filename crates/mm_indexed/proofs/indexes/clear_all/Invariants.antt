use Rattle.mm_indexed.specs.Index.{Emptied, TurnedTo}
use Rattle.mm_indexed.proofs.indexes.clear_all.Given as goal

abbrev pub invariant-loop-index : goal.invariant-loop-index
invariant-loop-index l = TurnedTo Emptied l.index-index l.fn.indexes.items l.index-items
