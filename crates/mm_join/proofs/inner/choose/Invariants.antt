use Rattle.std.proofs.Common.{◌≡◌, ◌+◌, ◌≤◌, ◌++◌, Some, drop, length, map}
use Rattle.mm_partition.specs.Views.{viewed}
use Rattle.mm_query.specs.Queries.{rows_read}
use Rattle.mm_templist.specs.Combos.{AreLive, rows_of_combo}
use Rattle.mm_join.proofs.inner.choose.Given as goal

-- the rows so far, followed by those of the remaining references, are the rows of the combination
abbrev pub invariant-loop-place : goal.invariant-loop-place
invariant-loop-place l = record {
  same : l.view.store ≡ l.fn.view.store;
  rows : rows_read viewed l.rows.items ++ map Some (rows_of_combo l.fn.view.store (drop l.place l.outer.tables.now) (drop l.place l.outer.refs.now))
      ≡ map Some (rows_of_combo l.fn.view.store l.outer.tables.now l.outer.refs.now);
  live : AreLive l.fn.view.store (drop l.place l.outer.tables.now) (drop l.place l.outer.refs.now);
  within : l.place ≤ length l.outer.tables.now;
  reads : l.view.reads ≤ l.fn.view.reads + l.place;
}
