use Rattle.std.proofs.Common.{◌≡◌, ◌≤◌, ◌+◌, length, map, take}
use Rattle.std.specs.List.{filter_map}
use Rattle.mm_partition.specs.Views.{viewed}
use Rattle.mm_partition.specs.Places.{slot_at}
use Rattle.mm_delta.specs.Edited.{old_slots}
use Rattle.mm_indexed.specs.Kept.{StoredRows}
use Rattle.mm_store.specs.Tables.{IsAt}
use Rattle.mm_delta.specs.Unseen.{come_seen, gone_seen}
use Rattle.mm_delta.proofs.unseen.Sight.seen_rows.Given as goal

-- the rows are those of the edits so far
abbrev pub invariant-loop-edit : goal.invariant-loop-edit
invariant-loop-edit l = record {
  same : l.view.store ≡ l.fn.view.store;
  gone : (stored : StoredRows) → IsAt l.fn.view.store l.table stored → map viewed l.seen.gone.items
      ≡ filter_map (gone_seen l.self.query.now l.self.place (slot_at stored.places)) (take l.edit-index l.edits);
  come : (stored : StoredRows) → IsAt l.fn.view.store l.table stored → map viewed l.seen.come.items
      ≡ filter_map (come_seen l.self.query.now l.self.place (slot_at stored.places)) (take l.edit-index l.edits);
  reads : l.view.reads ≤ l.fn.view.reads + length (old_slots (take l.edit-index l.edits));
}
