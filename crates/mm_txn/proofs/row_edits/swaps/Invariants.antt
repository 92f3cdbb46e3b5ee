use Rattle.std.proofs.Common.{◌≡◌, ◌-◌, false, Some, length, map, take}
use Rattle.std.specs.List.{list_any}
use Rattle.mm_indexed.specs.Kept.{StoredRows}
use Rattle.mm_partition.specs.Places.{slot_at}
use Rattle.mm_query.specs.Atoms.{is_past_range}
use Rattle.mm_row_order.specs.Refs.{row_at}
use Rattle.mm_store.specs.Edits.{old_slot}
use Rattle.mm_store.specs.Staging.{CanStage}
use Rattle.mm_store.specs.Tables.{IsAt}
use Rattle.mm_txn.specs.RowEdits.{Stages, updates_of}
use Rattle.mm_txn.proofs.NewValues.{values_of}
use Rattle.mm_txn.proofs.row_edits.swaps.Given as goal

-- the rows for the references so far were staged, none of their values is past the range, and there is capacity for the others
abbrev pub invariant-loop-at : goal.invariant-loop-at
invariant-loop-at l = record {
  made : (stored : StoredRows) → IsAt l.fn.store l.table stored
      → Stages l.table l.fn.store l.store l.edits (updates_of l.assignments (map (row_at (slot_at stored.places)) (take l.at-index l.refs)));
  names : map old_slot l.edits ≡ map Some (take l.at-index l.refs);
  in_range : (stored : StoredRows) → IsAt l.fn.store l.table stored
      → list_any is_past_range (values_of (slot_at stored.places) l.assignments (take l.at-index l.refs)) ≡ false;
  room : CanStage (length l.refs - l.at-index) l.table l.store;
}
