use Rattle.std.proofs.Common.{◌≡◌, ℕ, ◌<◌}
use Rattle.mm_partition.specs.Cells.{types_of, row_of, Fits}
use Rattle.mm_partition.proofs.CellLemmas.{Done, Rest}
use Rattle.mm_partition.proofs.sweeps.truncate_each.Given as goal

-- the columns so far are truncated
abbrev pub invariant-loop-i : goal.invariant-loop-i
invariant-loop-i l = record {
  types : types_of l.columns.items ≡ types_of l.initial.columns.items;
  rows : (k : ℕ) → k < l.n → row_of l.columns.items k ≡ row_of l.initial.columns.items k;
  fits : Done (Fits l.n 0) l.i l.columns.items;
  columns_rest : Rest l.i l.columns.items l.initial.columns.items;
}
