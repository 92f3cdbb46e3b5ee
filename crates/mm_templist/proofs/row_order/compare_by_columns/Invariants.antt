use Rattle.std.proofs.Common.{◌≡◌, drop}
use Rattle.mm_query.specs.Queries.{rows_by_columns}
use Rattle.mm_templist.specs.Runs.{referred}
use Rattle.mm_templist.proofs.row_order.compare_by_columns.Given as goal

abbrev pub invariant-loop-column : goal.invariant-loop-column
invariant-loop-column l =
    rows_by_columns (drop l.column-index l.columns) (referred l.a) (referred l.b) ≡ rows_by_columns l.columns (referred l.a) (referred l.b)
