use Rattle.std.proofs.Common.{ℕ, ◌<◌, get_or}
use Rattle.mm_partition.specs.Places.{slot_at}
use Rattle.mm_tables.specs.Commands.{NewKeyAlone}
use Rattle.mm_tables.specs.declared.edit.Edit.{Edit}
use Rattle.mm_tables.proofs.twins.bring_twins.Given as goal

abbrev pub invariant-loop-edit : goal.invariant-loop-edit
invariant-loop-edit l = (k : ℕ) (d : Edit) → k < l.edit-index → NewKeyAlone l.rows.key (slot_at l.rows.places) (get_or l.edits k d)
