use Rattle.std.proofs.Common.{◌≡◌, ◌<◌, ℕ, false, get_or, take}
use Rattle.std.specs.List.{All, list_any}
use Rattle.mm_indexed.specs.RowLists.{rows_of}
use Rattle.mm_link.specs.Edited.{coming}
use Rattle.mm_link.specs.Links.{HasTargetRow}
use Rattle.mm_partition.specs.Places.{slot_at}
use Rattle.mm_schema.specs.References.{lacks_target_row}
use Rattle.mm_tables.specs.declared.edit.Edit.{Edit}
use Rattle.mm_base.proofs.orphans.brings_any_orphan.Given as goal

abbrev pub invariant-loop-edit : goal.invariant-loop-edit
invariant-loop-edit l = record {
  rows : list_any (λ e. list_any (lacks_target_row l.link.reference.column l.to.key (rows_of l.to)) (coming (slot_at l.from.places) e))
      (take l.edit-index l.edits) ≡ false;
  found : (k : ℕ) (d : Edit) → k < l.edit-index
      → All (HasTargetRow l.link.reference.column l.to.key (slot_at l.to.places)) (coming (slot_at l.from.places) (get_or l.edits k d));
}
