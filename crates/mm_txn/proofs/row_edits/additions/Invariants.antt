use Rattle.std.proofs.Common.{◌≡◌, ◌++◌, List, length}
use Rattle.mm_schema.specs.Rows.{additions}
use Rattle.mm_store.specs.Staging.{CanStage}
use Rattle.mm_value.specs.declared.values.Value.{Value}
use Rattle.mm_txn.specs.RowEdits.{Stages}
use Rattle.mm_txn.proofs.row_edits.additions.Given as goal

-- the rows so far were staged, and there is capacity for the others
abbrev pub invariant-loop-row : goal.invariant-loop-row
invariant-loop-row l = record {
  made : (done : List (List Value)) × (l.fn.rows ≡ done ++ l.row-iterator) × Stages l.table l.fn.store l.store l.edits (additions done);
  room : CanStage (length l.row-iterator) l.table l.store;
}
