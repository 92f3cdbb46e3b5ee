use Rattle.std.proofs.Common.{◌≡◌, map, take}
use Rattle.mm_session.proofs.columns.table_columns.Given as goal

abbrev pub invariant-loop-column : goal.invariant-loop-column
invariant-loop-column l = map (λ column. column.now) l.found.items ≡ take l.column-index l.column-items
