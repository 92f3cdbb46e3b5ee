use Rattle.std.proofs.Common.{◌≡◌, Ok, map, take}
use Rattle.std.specs.List.{range_with_len}
use Rattle.mm_session.specs.ColumnArrays.{all_of, row_at, row_count}
use Rattle.mm_session.proofs.column_array.rows.Given as goal

-- the rows so far are those at the indexes so far
abbrev pub invariant-loop-at : goal.invariant-loop-at
invariant-loop-at l = all_of (take l.at (map (row_at l.columns) (range_with_len 0 (row_count l.columns)))) ≡ Ok l.rows
