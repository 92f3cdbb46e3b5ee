use Rattle.std.proofs.Common.{◌≡◌, length, take}
use Rattle.mm_partition.specs.Views.{viewed}
use Rattle.mm_query.specs.Queries.{rows_read, values_of}
use Rattle.mm_templist.specs.Runs.{referred}
use Rattle.mm_templist.proofs.results.copy_values.Given as goal

abbrev pub invariant-loop-i : goal.invariant-loop-i
invariant-loop-i l = record {
  wide : length l.values ≡ 16;
  values : referred (take l.i l.values) ≡ values_of (take l.i l.fields) (rows_read viewed l.rows);
}
