use Rattle.std.proofs.Common.{◌≡◌, take}
use Rattle.mm_schema.proofs.column.Columns.copy.Given as goal

abbrev pub invariant-loop-column : goal.invariant-loop-column
invariant-loop-column l = l.items.items ≡ take l.column-index l.column-items
