use Rattle.mm_indexed.specs.Index.{GrownTo, TurnedTo}
use Rattle.mm_indexed.proofs.indexes.reserve_all.Given as goal

abbrev pub invariant-loop-index : goal.invariant-loop-index
invariant-loop-index l = TurnedTo (GrownTo l.n) l.index-index l.fn.indexes.items l.index-items
