use Rattle.std.proofs.Common.{◌≡◌, take}
use Rattle.mm_partition.specs.Places.{slot_at}
use Rattle.mm_indexed.specs.Kept.{StoredRows}
use Rattle.mm_store.specs.Tables.{IsAt}
use Rattle.mm_txn.specs.Cascades.{AddsReferrers}
use Rattle.mm_txn.proofs.Referrers.{rows_taken, tests}
use Rattle.mm_txn.proofs.cascades.add_by_index.Given as goal

-- the references of the rows that have the key of a row of the edits so far were appended
abbrev pub invariant-loop-edit : goal.invariant-loop-edit
invariant-loop-edit l = record {
  same : l.view.store ≡ l.fn.view.store;
  added : (stored target : StoredRows) → IsAt l.fn.view.store l.table stored → IsAt l.fn.view.store l.cascade.to target
      → AddsReferrers stored (tests l.cascade.column target.key (rows_taken (slot_at target.places) (take l.edit-index l.cascade.gone.now)))
      l.initial.found.items l.found.items;
}
