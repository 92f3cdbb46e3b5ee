use Rattle.std.proofs.Common.{◌≡◌, ◌<◌, ℕ, false, get_or, take}
use Rattle.std.specs.List.{list_any}
use Rattle.mm_indexed.specs.RowLists.{rows_of}
use Rattle.mm_link.specs.Targets.{SparesReferred, pair_of}
use Rattle.mm_partition.specs.Places.{slot_at}
use Rattle.mm_schema.specs.References.{loses_target}
use Rattle.mm_tables.specs.declared.edit.Edit.{Edit}
use Rattle.mm_base.proofs.orphans.leaves_any_orphan.Given as goal

abbrev pub invariant-loop-edit : goal.invariant-loop-edit
invariant-loop-edit l = record {
  rows : list_any (λ e. loses_target l.link.reference.column l.to.key (rows_of l.from) (pair_of (slot_at l.to.places) e).0
      (pair_of (slot_at l.to.places) e).1) (take l.edit-index l.edits) ≡ false;
  found : (k : ℕ) (d : Edit) → k < l.edit-index
      → SparesReferred l.link.reference.column l.to.key (slot_at l.from.places) (slot_at l.to.places) (get_or l.edits k d);
}
