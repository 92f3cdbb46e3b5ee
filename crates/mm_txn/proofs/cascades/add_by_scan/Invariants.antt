use Rattle.std.proofs.Common.{◌≡◌, ◌++◌}
use Rattle.std.specs.List.{filter}
use Rattle.mm_partition.specs.Places.{slot_at}
use Rattle.mm_indexed.specs.Kept.{StoredRows}
use Rattle.mm_row_order.specs.Refs.{row_at}
use Rattle.mm_store.specs.Tables.{IsAt}
use Rattle.mm_txn.specs.Cascades.{is_cascaded_by}
use Rattle.mm_txn.proofs.cascades.add_by_scan.Given as goal

-- of the references so far, those of the cascaded rows were appended
abbrev pub invariant-loop-at : goal.invariant-loop-at
invariant-loop-at l = record {
  split : l.initial.at-iterator ≡ l.yielded ++ l.at-iterator;
  added : (stored : StoredRows) → IsAt l.view.store l.table stored → l.found.items ≡ l.initial.found.items
      ++ filter (λ at. is_cascaded_by l.view.store.tables l.cascade.column (l.cascade.to, l.cascade.gone.now) (row_at (slot_at stored.places) at)) l.yielded;
}
