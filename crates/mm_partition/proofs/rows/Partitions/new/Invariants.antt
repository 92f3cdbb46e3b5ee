use Rattle.std.proofs.Common.{◌≡◌, ◌≤◌, length, take}
use Rattle.std.specs.Prelude.{All}
use Rattle.std.specs.Vec.{vec_capacity, vec_len}
use Rattle.mm_partition.specs.Cells.{types_of, size_of}
use Rattle.mm_partition.proofs.rows.Partitions.new.Given as goal

-- the columns so far have their types, and no cells
abbrev pub invariant-loop-col_type : goal.invariant-loop-col_type
invariant-loop-col_type l = record {
  types : types_of l.columns.items ≡ take l.col_type-index l.types;
  len : vec_len l.columns ≡ l.col_type-index;
  capacity : length l.types ≤ vec_capacity l.columns;
  sizes : All (λ c. size_of c ≡ 0) l.columns.items;
}
