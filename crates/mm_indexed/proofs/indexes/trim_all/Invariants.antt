use Rattle.mm_indexed.specs.Index.{Trimmed, TurnedTo}
use Rattle.mm_indexed.proofs.indexes.trim_all.Given as goal

abbrev pub invariant-loop-index : goal.invariant-loop-index
invariant-loop-index l = TurnedTo (Trimmed l.n) l.index-index l.fn.indexes.items l.index-items
