use Rattle.std.proofs.Common.{◌≡◌, IfOk, subst}
use Rattle.mm_query.specs.Machine.{conditions, rows_by_index}
use Rattle.mm_query.specs.State.{State}
use Rattle.mm_query.specs.declared.command.Command.TheVariants.{ScanIndex}
use Rattle.mm_schema.specs.Refused.{AnswersDue, first_refusal}
use Rattle.mm_txn.proofs.database.Db.scan_index.Goals as goal

pub returns-clause-due : goal.returns-clause-due
returns-clause-due c =
    subst (λ (s : State). AnswersDue (first_refusal (conditions (ScanIndex c.args.name.now) s)) c.scan_index.result) c.self.view_is c.scan_index.ensures.due

pub returns-clause-rows : goal.returns-clause-rows
returns-clause-rows c =
    subst (λ (s : State). IfOk c.scan_index.result (λ rows. rows ≡ rows_by_index s c.args.name.now)) c.self.view_is c.scan_index.ensures.rows
