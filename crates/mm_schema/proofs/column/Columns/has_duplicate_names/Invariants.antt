use Rattle.std.proofs.Common.{◌≡◌, drop}
use Rattle.mm_schema.specs.Columns.{has_duplicate_names}
use Rattle.mm_schema.proofs.column.Columns.has_duplicate_names.Given as goal

-- The remaining columns have duplicates if and only if all of them do.
abbrev pub invariant-loop-i : goal.invariant-loop-i
invariant-loop-i l = has_duplicate_names (drop l.i l.columns) ≡ has_duplicate_names l.columns
