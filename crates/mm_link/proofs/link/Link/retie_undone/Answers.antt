use Rattle.mm_partition.specs.Places.{slot_at}
use Rattle.mm_link.proofs.Retying.{Follows-back, IsPending-back}
use Rattle.mm_link.proofs.link.Link.retie_undone.Goals as goal

pub retie_turned-requires-clause-pending : goal.retie_turned-requires-clause-pending
retie_turned-requires-clause-pending c =
    IsPending-back c.args.self.now.reference.column c.args.to.now.key (slot_at c.args.to.now.places) c.args.from.now.key
    (slot_at c.args.from.now.places) c.args.edit c.args.self.now.ties c.requires.undone

pub returns-clause-follows : goal.returns-clause-follows
returns-clause-follows c =
    Follows-back c.args.self.now.reference.column c.args.to.now.key (slot_at c.args.to.now.places) c.args.from.now.key
    (slot_at c.args.from.now.places) c.args.edit c.args.self.now.ties c.retie_turned.new.self.ties c.requires.undone c.retie_turned.ensures.tied
