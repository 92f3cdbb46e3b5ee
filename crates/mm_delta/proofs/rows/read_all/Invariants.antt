use Rattle.std.proofs.Common.{◌≡◌, ◌≤◌, ◌+◌, map, take}
use Rattle.mm_partition.specs.Views.{viewed}
use Rattle.mm_partition.specs.Places.{slot_at}
use Rattle.mm_indexed.specs.Kept.{StoredRows}
use Rattle.mm_row_order.specs.Refs.{row_at}
use Rattle.mm_store.specs.Tables.{IsAt}
use Rattle.mm_delta.proofs.rows.read_all.Given as goal

abbrev pub invariant-loop-at : goal.invariant-loop-at
invariant-loop-at l = record {
  same : l.view.store ≡ l.fn.view.store;
  rows : (stored : StoredRows) → IsAt l.fn.view.store l.table stored
      → map viewed l.rows.items ≡ map (row_at (slot_at stored.places)) (take l.at-index l.refs);
  reads : l.view.reads ≤ l.fn.view.reads + l.at-index;
}
