use Rattle.std.proofs.Common.{◌≡◌, drop}
use Rattle.mm_partition.specs.Places.{slot_at}
use Rattle.mm_link.specs.Edited.{IsBehind}
use Rattle.mm_link.specs.Links.{SameSize}
use Rattle.mm_link.proofs.link.Link.retie.Given as goal

abbrev pub invariant-loop-edit : goal.invariant-loop-edit
invariant-loop-edit l = record {
  reference : l.self.reference ≡ l.fn.self.reference;
  behind : IsBehind l.fn.self.reference.column l.to.key (slot_at l.from.places) (slot_at l.to.places) (drop l.edit-index l.edits) l.self.ties;
  size : SameSize l.fn.self.ties l.self.ties;
}
