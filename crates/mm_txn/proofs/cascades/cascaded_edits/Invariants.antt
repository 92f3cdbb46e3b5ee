use Rattle.std.proofs.Common.{◌≡◌, [], map, take}
use Rattle.mm_indexed.specs.Kept.{StoredRows}
use Rattle.mm_store.specs.Tables.{IsAt}
use Rattle.mm_txn.specs.Cascades.{AddsReferrers, is_cascaded_by_some, placed_cascade}
use Rattle.mm_txn.proofs.cascades.cascaded_edits.Given as goal

-- the references of the rows to which deletions cascade by the columns so far were found
abbrev pub invariant-loop-cascade : goal.invariant-loop-cascade
invariant-loop-cascade l = record {
  same : l.view.store ≡ l.store;
  found : (stored : StoredRows) → IsAt l.store l.table stored
      → AddsReferrers stored (is_cascaded_by_some l.store.tables (map placed_cascade (take l.cascade-index l.cascade-items))) [] l.found.items;
}
