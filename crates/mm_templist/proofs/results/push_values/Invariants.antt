use Rattle.std.proofs.Common.{◌≡◌, ◌++◌, take}
use Rattle.mm_partition.specs.Views.{viewed}
use Rattle.mm_query.specs.Queries.{rows_read, values_of}
use Rattle.mm_templist.specs.Runs.{referred}
use Rattle.mm_templist.proofs.results.push_values.Given as goal

abbrev pub invariant-loop-field : goal.invariant-loop-field
invariant-loop-field l =
    referred l.values.items ≡ referred l.fn.values.items ++ values_of (take l.field-index l.fields) (rows_read viewed l.rows)
