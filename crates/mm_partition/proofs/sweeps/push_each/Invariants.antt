use Rattle.std.proofs.Common.{◌≡◌, ◌≢◌, ◌+◌, ℕ}
use Rattle.std.specs.Prelude.{All}
use Rattle.mm_partition.specs.Cells.{types_of, row_of, Fits}
use Rattle.mm_partition.proofs.CellLemmas.{seam, Done, Rest}
use Rattle.mm_partition.proofs.sweeps.push_each.Given as goal

-- the columns so far have the new slot
abbrev pub invariant-loop-i : goal.invariant-loop-i
invariant-loop-i l = record {
  types : types_of l.columns.items ≡ types_of l.initial.columns.items;
  here : row_of l.columns.items l.index ≡ seam l.i l.initial.values (row_of l.initial.columns.items l.index);
  others : (k : ℕ) → k ≢ l.index → row_of l.columns.items k ≡ row_of l.initial.columns.items k;
  fits : (spare : ℕ) → All (Fits l.index (spare + 1)) l.initial.columns.items → Done (Fits (l.index + 1) spare) l.i l.columns.items;
  columns_rest : Rest l.i l.columns.items l.initial.columns.items;
  values_rest : Rest l.i l.values l.initial.values;
}
