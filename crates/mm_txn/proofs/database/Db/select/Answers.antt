use Rattle.std.proofs.Common.{inl, inr, refl}
use Rattle.mm_txn.proofs.database.Db.select.Goals as goal

pub returns-in_err-bound-clause-reads : goal.returns-in_err-bound-clause-reads
returns-in_err-bound-clause-reads c = inl refl

pub returns-clause-reads : goal.returns-clause-reads
returns-clause-reads c = inr (c.select_bound.ensures.reads c.args.query c.in_ok-bound.ensures.ok)
