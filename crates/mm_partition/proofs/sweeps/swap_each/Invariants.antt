use Rattle.std.proofs.Common.{◌≡◌, ◌≢◌, ℕ}
use Rattle.std.specs.Prelude.{All}
use Rattle.mm_partition.specs.Cells.{types_of, row_of, Fits}
use Rattle.mm_partition.proofs.CellLemmas.{seam, Rest}
use Rattle.mm_partition.proofs.sweeps.swap_each.Given as goal

-- the columns so far have the new values, and the list has their old ones
abbrev pub invariant-loop-i : goal.invariant-loop-i
invariant-loop-i l = record {
  types : types_of l.columns.items ≡ types_of l.initial.columns.items;
  here : row_of l.columns.items l.index ≡ seam l.i l.initial.values (row_of l.initial.columns.items l.index);
  values : l.values ≡ seam l.i (row_of l.initial.columns.items l.index) l.initial.values;
  others : (k : ℕ) → k ≢ l.index → row_of l.columns.items k ≡ row_of l.initial.columns.items k;
  fits : (slots spare : ℕ) → All (Fits slots spare) l.initial.columns.items → All (Fits slots spare) l.columns.items;
  columns_rest : Rest l.i l.columns.items l.initial.columns.items;
  values_rest : Rest l.i l.values l.initial.values;
}
