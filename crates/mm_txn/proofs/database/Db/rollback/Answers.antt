-- The rows and the lists are those at the beginning of the transaction.
use Rattle.mm_txn.proofs.GoingBack.{empty_from_none}
use Rattle.mm_txn.proofs.OpenSteps.{taken_back}
use Rattle.mm_txn.proofs.database.Db.rollback.Goals as goal

pub revert-requires-clause-back : goal.revert-requires-clause-back
revert-requires-clause-back c = (c.self.invariant.back c.if-not-self.false).saved

pub invariant_of-self : goal.invariant_of-self
invariant_of-self c =
    taken_back c.self.inside.contents c.self.inside.marks.items c.self.inside.is_open c.self.invariant c.revert.new.self c.revert.ensures.schema
    c.revert.ensures.queries (record { edits = empty_from_none c.revert.new.self.store.stored.log c.revert.ensures.mark; log = c.revert.ensures.log })
    c.clear.new.self.items c.clear.ensures.items c.if-not-self.false c.revert.ensures.rows
