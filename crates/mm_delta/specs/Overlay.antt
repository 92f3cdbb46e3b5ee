-- Edits that are added to the rows of a table when rows are looked up.
use Rattle.std.specs.Prelude.{◌≡◌, List}
use Rattle.mm_row_order.specs.Refs.{Slots}
use Rattle.mm_store.specs.Edits.{rows_come}
use Rattle.mm_tables.specs.declared.edit.Edit.{Edit}
use Rattle.mm_delta.specs.declared.overlay.Overlay.{Overlay}
use Rattle.mm_delta.specs.declared.overlay.Overlay.TheVariants.{Listed, Indexed}

-- The edits, as a list or as those with indexes.
abbrev pub overlay_edits : Overlay → List Edit
overlay_edits (Listed edits) = edits.now
overlay_edits (Indexed index) = index.now.edits

-- The rows read from the edits, if these have indexes, are their new rows.
abbrev pub IsReadOf : Slots → Overlay → Type 0
IsReadOf now (Listed edits) = Unit {0}
IsReadOf now (Indexed index) = index.now.come ≡ rows_come now index.now.edits
