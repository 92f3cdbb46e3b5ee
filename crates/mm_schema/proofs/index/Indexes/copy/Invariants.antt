use Rattle.std.proofs.Common.{◌≡◌, take}
use Rattle.mm_schema.proofs.index.Indexes.copy.Given as goal

abbrev pub invariant-loop-index : goal.invariant-loop-index
invariant-loop-index l = l.items.items ≡ take l.index-index l.index-items
