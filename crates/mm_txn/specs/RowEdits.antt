-- Edits of the rows of one table, and the rows that are staged for them.
use Rattle.std.specs.Prelude.{◌≡◌, ℕ, List, Option, Some, None, All, map}
use Rattle.std.specs.Option.{option_map}
use Rattle.mm_indexed.specs.Kept.{StoredRows}
use Rattle.mm_link.specs.Targets.{pair_of}
use Rattle.mm_partition.specs.Places.{Free, slot_at}
use Rattle.mm_query.specs.Atoms.{updated_row}
use Rattle.mm_query.specs.declared.atom.Assignment.{Assignment}
use Rattle.mm_row_order.specs.Refs.{Slots, row_at}
use Rattle.mm_schema.specs.Rows.{Pair}
use Rattle.mm_store.specs.Edits.{AreFit, new_slot, old_slot, pairs_of}
use Rattle.mm_store.specs.Staging.{HasStaged}
use Rattle.mm_store.specs.Tables.{IsAt, Tables}
use Rattle.mm_tables.specs.Edits.{Fits, came_by}
use Rattle.mm_tables.specs.declared.edit.Edit.{Edit}
use Rattle.mm_value.specs.declared.row_ref.RowRef.{RowRef}
use Rattle.mm_value.specs.declared.values.Value.{Value}

-- Each row with its updated row, as pairs.
abbrev pub updates_of : List (Assignment ℕ) → List (List Value) → List Pair
updates_of assignments rows = map (λ (row : List Value). (Some row, Some (updated_row assignments row))) rows

-- The updated row of a reference.
abbrev pub updated_at : Slots → List (Assignment ℕ) → RowRef → List Value
updated_at now assignments at = updated_row assignments (row_at now at)

-- A row was staged in a slot that was free, and the edit inserts it, or replaces the row of a reference by it.
pub record Brings (old new : StoredRows) (at : Option RowRef) (row : List Value) (edit : Edit) : Type 0 where
  pub fits : Fits new.key (slot_at new.places) edit
  pub fresh : (other : RowRef) → new_slot edit ≡ Some other → slot_at old.places other ≡ Free
  pub takes : old_slot edit ≡ at
  pub pair : pair_of (slot_at new.places) edit ≡ (option_map (row_at (slot_at old.places)) at, Some row)

-- Rows of a table were staged since, and edits that fit the table bring them into use: they change its rows by these pairs.
pub record Stages (table : ℕ) (old new : Tables) (edits : List Edit) (pairs : List Pair) : Type 0 where
  pub kept : HasStaged table old new
  pub fit : (stored : StoredRows) → IsAt new table stored → AreFit stored edits
  pub pairs_are : (stored : StoredRows) → IsAt new table stored → pairs_of (slot_at stored.places) edits ≡ pairs

-- No edit inserts or replaces a row.
abbrev pub BringNone : List Edit → Type 0
BringNone edits = All (λ (e : Edit). came_by e ≡ None) edits
