use Rattle.std.proofs.Common.{◌≡◌, ◌+◌, ◌≤◌, ◌∷◌, []}
use Rattle.mm_value.specs.declared.col_type.ColType.TheVariants.{Int}
use Rattle.mm_partition.specs.Places.{IsLive}
use Rattle.structure_tests.proofs.partitions.place_behind.Given as goal

-- there is capacity for the remaining rows, the second row is in use, and each row has a number
abbrev pub invariant-loop : goal.invariant-loop
invariant-loop g l = record {
  room : 200 ≤ l.counter + l.rows.room;
  live : IsLive l.rows l.two;
  types : l.rows.types ≡ Int ∷ [];
}
