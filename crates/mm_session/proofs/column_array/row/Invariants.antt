use Rattle.std.proofs.Common.{◌≡◌, Ok, map, take}
use Rattle.mm_session.specs.ColumnArrays.{all_of, value_at}
use Rattle.mm_session.specs.declared.column_array.ColumnArray.{ColumnArray}
use Rattle.mm_session.proofs.column_array.row.Given as goal

-- the values so far are those of the columns so far
abbrev pub invariant-loop-column : goal.invariant-loop-column
invariant-loop-column l = all_of (take l.column-index (map (λ (column : ColumnArray). value_at column l.at) l.columns)) ≡ Ok l.row
