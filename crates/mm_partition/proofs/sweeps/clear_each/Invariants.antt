use Rattle.std.proofs.Common.{◌≡◌, ◌≢◌, ℕ}
use Rattle.std.specs.Prelude.{All}
use Rattle.mm_partition.specs.Cells.{types_of, row_of, Fits, IsEmptied}
use Rattle.mm_partition.specs.declared.columns.Column.{Column}
use Rattle.mm_partition.proofs.CellLemmas.{Done, Rest}
use Rattle.mm_partition.proofs.sweeps.clear_each.Given as goal

-- the columns so far have no text in the slot, and the other slots are unchanged
abbrev pub invariant-loop-i : goal.invariant-loop-i
invariant-loop-i l = record {
  types : types_of l.columns.items ≡ types_of l.initial.columns.items;
  emptied : Done (λ (c : Column). IsEmptied c l.index) l.i l.columns.items;
  others : (k : ℕ) → k ≢ l.index → row_of l.columns.items k ≡ row_of l.initial.columns.items k;
  fits : (slots spare : ℕ) → All (Fits slots spare) l.initial.columns.items → All (Fits slots spare) l.columns.items;
  columns_rest : Rest l.i l.columns.items l.initial.columns.items;
}
