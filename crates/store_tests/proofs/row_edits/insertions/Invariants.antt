use Rattle.std.proofs.Common.{◌≡◌, ℕ, ◌+◌, length}
use Rattle.mm_store.specs.Staging.{CanStage, HasStaged}
use Rattle.store_tests.specs.RowEdits.{AreReadyAt}
use Rattle.store_tests.proofs.row_edits.insertions.Given as goal

-- the rows so far are staged, there is capacity for the others, and the edits so far may be made
abbrev pub invariant-loop-row : goal.invariant-loop-row
invariant-loop-row l = record {
  staged : HasStaged l.table l.fn.store l.store;
  room : (left : ℕ) → l.row-index + left ≡ length l.rows → CanStage left l.table l.store;
  ready : AreReadyAt l.store l.table l.edits.items;
}
