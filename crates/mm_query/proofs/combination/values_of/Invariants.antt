use Rattle.std.proofs.Common.{◌≡◌, take}
use Rattle.mm_query.specs.Queries.{rows_read, values_of}
use Rattle.mm_query.proofs.combination.values_of.Given as goal

abbrev pub invariant-loop-field : goal.invariant-loop-field
invariant-loop-field g l = l.values.items ≡ values_of (take l.field-index l.fields) (rows_read g.R.AsRow.row l.rows)
