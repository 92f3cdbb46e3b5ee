use Rattle.std.proofs.Common.{take}
use Rattle.mm_delta.specs.EditIndex.{AreGone}
use Rattle.mm_delta.proofs.edit_index.references_of_gone.Given as goal

abbrev pub invariant-loop-edit : goal.invariant-loop-edit
invariant-loop-edit l = AreGone (take l.edit-index l.edits) l.gone.keys
