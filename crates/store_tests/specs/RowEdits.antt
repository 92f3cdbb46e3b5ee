-- Edits of the slots of a table whose rows are staged.
use Rattle.std.specs.Prelude.{◌≡◌, ◌≢◌, ℕ, ◌+◌, List, [], ◌∷◌, ◌++◌, Some, All}
use Rattle.mm_indexed.specs.Kept.{StoredRows}
use Rattle.mm_partition.specs.Places.{IsLive}
use Rattle.mm_store.specs.Edits.{AreReady, old_slot}
use Rattle.mm_store.specs.Staging.{CanStage, HasStaged}
use Rattle.mm_store.specs.Tables.{IsAt, Tables}
use Rattle.mm_tables.specs.declared.edit.Edit.{Edit}
use Rattle.mm_value.specs.declared.row_ref.RowRef.{RowRef}

-- The reference is of a row in use of the table.
abbrev pub IsLiveAt : Tables → ℕ → RowRef → Type 0
IsLiveAt store table at = (stored : StoredRows) → IsAt store table stored → IsLive stored.places at

-- The edits of the table may be made together.
abbrev pub AreReadyAt : Tables → ℕ → List Edit → Type 0
AreReadyAt store table edits = (stored : StoredRows) → IsAt store table stored → AreReady stored edits

-- None of the edits deletes or replaces the row of this reference.
abbrev pub LeaveRow : List Edit → RowRef → Type 0
LeaveRow edits at = All (λ e. old_slot e ≢ Some at) edits

-- A row was staged, and the edit brings it into use. Edits that were ready remain ready together with this one, if they leave the row that
-- it replaces.
pub record Brings (table : ℕ) (edit : Edit) (old new : Tables) : Type 0 where
  pub staged : HasStaged table old new
  pub room : (rows : ℕ) → CanStage (rows + 1) table old → CanStage rows table new
  pub ready : (edits : List Edit) → AreReadyAt old table edits → ((at : RowRef) → old_slot edit ≡ Some at → LeaveRow edits at)
      → AreReadyAt new table (edits ++ edit ∷ [])
