use Rattle.std.specs.List.{All}
use Rattle.mm_partition.specs.Places.{IsLive}
use Rattle.mm_indexed.specs.Kept.{StoredRows}
use Rattle.mm_store.specs.Tables.{IsAt}
use Rattle.store_tests.proofs.stores.at_key.Given as goal

-- the remaining references are of live rows
abbrev pub invariant-loop-at : goal.invariant-loop-at
invariant-loop-at l = (stored : StoredRows) → IsAt l.store l.table stored → All (IsLive stored.places) l.at-iterator
