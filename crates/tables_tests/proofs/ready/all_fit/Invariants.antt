use Rattle.std.proofs.Common.{ℕ, ◌<◌, get_or}
use Rattle.mm_partition.specs.Places.{slot_at}
use Rattle.mm_tables.specs.Edits.{Fits}
use Rattle.mm_tables.specs.declared.edit.Edit.{Edit}
use Rattle.tables_tests.proofs.ready.all_fit.Given as goal

abbrev pub invariant-loop-edit : goal.invariant-loop-edit
invariant-loop-edit l = (k : ℕ) (d : Edit) → k < l.edit-index → Fits l.rows.key (slot_at l.rows.places) (get_or l.edits k d)
