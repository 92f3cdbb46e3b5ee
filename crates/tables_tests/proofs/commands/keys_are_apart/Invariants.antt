use Rattle.std.proofs.Common.{◌⊎◌}
use Rattle.std.specs.List.{All, Contains}
use Rattle.mm_value.specs.declared.row_ref.RowRef.{RowRef}
use Rattle.mm_partition.specs.Places.{IsLive, slot_at}
use Rattle.mm_indexed.specs.Twins.{HasTwin}
use Rattle.tables_tests.proofs.commands.keys_are_apart.Given as goal

-- the remaining references are of rows in use, and each other row has no twin
abbrev pub invariant-loop-at : goal.invariant-loop-at
invariant-loop-at l = record {
  live : All (IsLive l.rows.places) l.at-iterator;
  seen : (at : RowRef) → Contains l.rows.refs at → (HasTwin l.rows.key (slot_at l.rows.places) at → ⊥) ⊎ Contains l.at-iterator at;
}
