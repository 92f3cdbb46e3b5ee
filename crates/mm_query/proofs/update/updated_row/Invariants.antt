use Rattle.std.proofs.Common.{◌≡◌, ◌++◌, false, drop}
use Rattle.std.specs.List.{list_any}
use Rattle.mm_query.specs.Atoms.{is_past_range, updated_from, updated_row}
use Rattle.mm_query.proofs.update.updated_row.Given as goal

-- the values so far and the rest are the new row; none of the values so far is past the range
abbrev pub invariant-loop-column : goal.invariant-loop-column
invariant-loop-column g l = record {
  rest : l.values.items ++ updated_from l.assignments (g.R.AsRow.row l.row) l.column (drop l.column (g.R.AsRow.row l.row))
      ≡ updated_row l.assignments (g.R.AsRow.row l.row);
  in_range : list_any is_past_range l.values.items ≡ false;
}
