use Rattle.std.proofs.Common.{refl, ◌∙◌}
use Rattle.mm_partition.specs.Places.{slot_at}
use Rattle.mm_link.proofs.Retying.{IsBehind-made, IsBehind-more, IsPending-at}
use Rattle.mm_link.proofs.link.Link.retie.Goals as goal

pub loop-edit-init : goal.loop-edit-init
loop-edit-init c = record {
  reference = refl;
  behind = IsBehind-made c.args.self.now.reference.column c.args.to.now.key (slot_at c.args.to.now.places) c.args.from.now.key
      (slot_at c.args.from.now.places) c.args.edits.now c.args.self.now.ties c.requires.made;
  size = record { referrers = refl; targets = refl };
}

pub retie_turned-requires-clause-pending : goal.retie_turned-requires-clause-pending
retie_turned-requires-clause-pending c =
    let inv = c.loop-edit.invariant in
    IsPending-at c.args.to.now.key (slot_at c.args.from.now.places) (slot_at c.args.to.now.places) c.args.self.now.reference
    c.loop-edit.self.reference inv.reference c.args.edits.now c.loop-edit.edit-index c.loop-edit-test.true c.loop-edit.self.ties inv.behind _

pub loop-edit-preserved : goal.loop-edit-preserved
loop-edit-preserved c =
    let inv = c.loop-edit.invariant in
    record {
      reference = c.retie_turned.ensures.reference ∙ inv.reference;
      behind = IsBehind-more c.args.to.now.key (slot_at c.args.from.now.places) (slot_at c.args.to.now.places) c.args.self.now.reference
          c.loop-edit.self.reference inv.reference c.args.edits.now c.loop-edit.edit-index c.loop-edit-test.true c.loop-edit.self.ties
          inv.behind _ c.retie_turned.new.self.ties c.retie_turned.ensures.tied;
      size = record {
        referrers = c.retie_turned.ensures.size.referrers ∙ inv.size.referrers;
        targets = c.retie_turned.ensures.size.targets ∙ inv.size.targets;
      };
    }
