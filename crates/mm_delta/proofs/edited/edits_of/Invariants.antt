use Rattle.std.proofs.Common.{◌≡◌, drop}
use Rattle.mm_delta.specs.Edited.{edits_at}
use Rattle.mm_delta.proofs.edited.edits_of.Given as goal

abbrev pub invariant-loop-change : goal.invariant-loop-change
invariant-loop-change l = edits_at (drop l.change-index l.changes) l.table ≡ edits_at l.changes l.table
