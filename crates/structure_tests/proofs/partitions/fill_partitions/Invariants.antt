use Rattle.std.proofs.Common.{◌≡◌, ◌+◌, ◌≤◌, ◌∷◌, []}
use Rattle.mm_value.specs.declared.col_type.ColType.TheVariants.{Int}
use Rattle.mm_partition.specs.Places.{IsLive}
use Rattle.structure_tests.proofs.partitions.fill_partitions.Given as goal

-- there is capacity for the remaining rows, the first row is in use, and each row has a number
abbrev pub invariant-loop-k : goal.invariant-loop-k
invariant-loop-k g l = record {
  room : 130 ≤ l.k + l.rows.room;
  live : IsLive l.rows l.first;
  types : l.rows.types ≡ Int ∷ [];
}
