use Rattle.std.proofs.Common.{ℕ, ◌<◌, get_or, length}
use Rattle.mm_store.specs.Tables.{rows_at}
use Rattle.mm_plan.proofs.caps.have_rows.Given as goal

-- each table so far has a row
abbrev pub invariant-loop-table : goal.invariant-loop-table
invariant-loop-table l = (k d : ℕ) → k < l.table-index → 0 < length (rows_at l.view.store.tables (get_or l.tables k d))
