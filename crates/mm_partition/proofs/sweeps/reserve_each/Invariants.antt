use Rattle.std.proofs.Common.{◌≡◌, ℕ}
use Rattle.std.specs.Prelude.{All}
use Rattle.mm_partition.specs.Cells.{types_of, row_of, Fits}
use Rattle.mm_partition.proofs.CellLemmas.{Done}
use Rattle.mm_partition.proofs.sweeps.reserve_each.Given as goal

-- the columns so far have the capacity
abbrev pub invariant-loop-i : goal.invariant-loop-i
invariant-loop-i l = record {
  types : types_of l.columns.items ≡ types_of l.initial.columns.items;
  rows : (k : ℕ) → row_of l.columns.items k ≡ row_of l.initial.columns.items k;
  stays : (slots spare : ℕ) → All (Fits slots spare) l.initial.columns.items → All (Fits slots spare) l.columns.items;
  room : (slots spare : ℕ) → All (Fits slots spare) l.initial.columns.items → Done (Fits slots l.n) l.i l.columns.items;
}
