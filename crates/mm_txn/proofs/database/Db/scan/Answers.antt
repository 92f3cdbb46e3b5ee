use Rattle.std.proofs.Common.{◌≡◌, IfOk, None, Some, subst}
use Rattle.std.specs.Prelude.{MatchResult}
use Rattle.mm_query.specs.Machine.{conditions}
use Rattle.mm_query.specs.State.{State, rows_in}
use Rattle.mm_query.specs.declared.command.Command.TheVariants.{Scan}
use Rattle.mm_schema.specs.Refused.{first_refusal}
use Rattle.mm_txn.proofs.database.Db.scan.Goals as goal

pub returns-clause-due : goal.returns-clause-due
returns-clause-due c =
    subst (λ (s : State). MatchResult c.scan.result (λ _. first_refusal (conditions (Scan c.args.table.now) s) ≡ None)
    (λ refusal. first_refusal (conditions (Scan c.args.table.now) s) ≡ Some refusal)) c.self.view_is c.scan.ensures.due

pub returns-clause-rows : goal.returns-clause-rows
returns-clause-rows c =
    subst (λ (s : State). IfOk c.scan.result (λ rows. rows ≡ rows_in s c.args.table.now)) c.self.view_is c.scan.ensures.rows
