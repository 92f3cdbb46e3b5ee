-- The changes are final.
use Rattle.std.proofs.Common.{refl}
use Rattle.mm_txn.proofs.OpenSteps.{settled_outside}
use Rattle.mm_txn.proofs.database.Db.commit.Goals as goal

pub invariant_of-self : goal.invariant_of-self
invariant_of-self c =
    settled_outside c.self.inside.contents c.self.inside.marks.items c.self.inside.is_open c.self.invariant c.settle_outside.new.self
    c.settle_outside.ensures.schema c.settle_outside.ensures.queries
    (c.settle_outside.ensures.settled refl) c.clear.new.self.items c.clear.ensures.items c.settle_outside.ensures.rows
