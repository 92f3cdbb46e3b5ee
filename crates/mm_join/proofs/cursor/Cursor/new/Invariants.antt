use Rattle.std.proofs.Common.{◌≡◌, ◌+◌, ◌≤◌, ◌++◌, length, map}
use Rattle.mm_partition.specs.Places.{slot_at}
use Rattle.mm_indexed.specs.Kept.{StoredRows}
use Rattle.mm_store.specs.Tables.{IsAt}
use Rattle.mm_join.specs.Entries.{entry_of}
use Rattle.mm_join.proofs.cursor.Cursor.new.Given as goal

-- the entries of the rows so far are in the order of the walk
abbrev pub invariant-loop-at : goal.invariant-loop-at
invariant-loop-at l = record {
  split : l.initial.at-iterator ≡ l.yielded ++ l.at-iterator;
  same : l.view.store ≡ l.fn.view.store;
  entries : (stored : StoredRows) → IsAt l.fn.view.store l.table stored
      → l.entries.items ≡ map (entry_of l.column (slot_at stored.places)) l.yielded;
  reads : l.view.reads ≤ l.fn.view.reads + length l.yielded;
}
