use Rattle.std.proofs.Common.{◌≡◌, ◌≢◌, ℕ}
use Rattle.std.specs.Prelude.{All}
use Rattle.mm_partition.specs.Cells.{types_of, row_of, Fits}
use Rattle.mm_partition.proofs.CellLemmas.{seam, Rest}
use Rattle.mm_partition.proofs.sweeps.exchange_each.Given as goal

-- the columns so far have the cells of the two slots exchanged
abbrev pub invariant-loop-i : goal.invariant-loop-i
invariant-loop-i l = record {
  types : types_of l.columns.items ≡ types_of l.initial.columns.items;
  first : row_of l.columns.items l.a ≡ seam l.i (row_of l.initial.columns.items l.b) (row_of l.initial.columns.items l.a);
  second : row_of l.columns.items l.b ≡ seam l.i (row_of l.initial.columns.items l.a) (row_of l.initial.columns.items l.b);
  others : (k : ℕ) → k ≢ l.a → k ≢ l.b → row_of l.columns.items k ≡ row_of l.initial.columns.items k;
  fits : (slots spare : ℕ) → All (Fits slots spare) l.initial.columns.items → All (Fits slots spare) l.columns.items;
  columns_rest : Rest l.i l.columns.items l.initial.columns.items;
}
