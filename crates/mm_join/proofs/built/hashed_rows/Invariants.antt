use Rattle.std.proofs.Common.{◌≡◌, ◌+◌, ◌≤◌, ◌++◌, length, map}
use Rattle.std.specs.List.Sorted.{IsPermutation}
use Rattle.mm_partition.specs.Places.{slot_at}
use Rattle.mm_indexed.specs.Kept.{StoredRows}
use Rattle.mm_store.specs.Tables.{IsAt}
use Rattle.mm_join.specs.AccessMethods.{hashed_row}
use Rattle.mm_join.proofs.built.hashed_rows.Given as goal

-- the pairs of the rows so far are stored, and there is capacity for those of the others
abbrev pub invariant-loop-at : goal.invariant-loop-at
invariant-loop-at l = record {
  split : l.initial.at-iterator ≡ l.yielded ++ l.at-iterator;
  same : l.view.store ≡ l.fn.view.store;
  pairs : (stored : StoredRows) → IsAt l.fn.view.store l.table stored
      → IsPermutation l.pairs.entries (map (hashed_row l.column (slot_at stored.places)) l.yielded);
  spare : length l.at-iterator ≤ l.pairs.spare;
  reads : l.view.reads ≤ l.fn.view.reads + length l.yielded;
}
