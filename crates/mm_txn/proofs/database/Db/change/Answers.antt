use Rattle.std.proofs.Common.{inl, refl}
use Rattle.std.proofs.lemmas.Result.{err_from_is_err_and}
use Rattle.mm_txn.proofs.ChangeSteps.{bound_due}
use Rattle.mm_txn.proofs.database.Db.change.Goals as goal

pub returns-in_err-table-clause-due : goal.returns-in_err-table-clause-due
returns-in_err-table-clause-due c =
    let p = err_from_is_err_and c.from_residual.result c.from_residual.ensures.1 in
    rw (p.1, p.2) (bound_due c.args.mutation c.args.self.now c.in_err-table.field-0.0 c.in_err-table.ensures.due)

pub returns-in_err-table-clause-reads : goal.returns-in_err-table-clause-reads
returns-in_err-table-clause-reads c = inl refl
