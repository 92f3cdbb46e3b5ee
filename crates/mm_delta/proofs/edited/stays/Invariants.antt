use Rattle.std.proofs.Common.{◌≡◌, drop}
use Rattle.mm_delta.specs.Steps.{stays as stays_lem}
use Rattle.mm_delta.proofs.edited.stays.Given as goal

abbrev pub invariant-loop-edit : goal.invariant-loop-edit
invariant-loop-edit l = stays_lem (drop l.edit-index l.edits) l.at ≡ stays_lem l.edits l.at
