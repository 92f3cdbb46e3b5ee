use Rattle.std.proofs.Common.{◌≡◌, Some, map, take}
use Rattle.mm_query.specs.Queries.{values_of}
use Rattle.mm_templist.specs.Combos.{rows_of_combo}
use Rattle.mm_standing.proofs.watching.row_read.Given as goal

-- the values of the fields so far were read
abbrev pub invariant-loop-field : goal.invariant-loop-field
invariant-loop-field l = record {
  values : l.values.items ≡ values_of (take l.field-index l.fields) (map Some (rows_of_combo l.fn.view.store l.tables l.combo));
  same : l.view.store ≡ l.fn.view.store;
}
