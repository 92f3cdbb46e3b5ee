use Rattle.std.proofs.Common.{◌≡◌, ◌+◌, ◌≤◌, Some, map, take}
use Rattle.mm_query.specs.Queries.{rows_read}
use Rattle.mm_partition.specs.Views.{viewed}
use Rattle.mm_templist.specs.Combos.{rows_of_combo}
use Rattle.mm_templist.proofs.results.choose_rows.Given as goal

abbrev pub invariant-loop-i : goal.invariant-loop-i
invariant-loop-i l = record {
  same : l.view.store ≡ l.fn.view.store;
  rows : rows_read viewed l.chosen.items ≡ map Some (take l.i (rows_of_combo l.fn.view.store l.tables l.combo));
  reads : l.view.reads ≤ l.fn.view.reads + l.i;
}
