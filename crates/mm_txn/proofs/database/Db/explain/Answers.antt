use Rattle.std.proofs.Common.{◌≡◌, IfOk, subst}
use Rattle.mm_query.specs.Machine.{conditions, plan_in}
use Rattle.mm_query.specs.State.{State}
use Rattle.mm_query.specs.declared.command.Command.TheVariants.{Explain}
use Rattle.mm_schema.specs.Refused.{AnswersDue, first_refusal}
use Rattle.mm_txn.proofs.database.Db.explain.Goals as goal

pub returns-clause-due : goal.returns-clause-due
returns-clause-due c =
    subst (λ (s : State). AnswersDue (first_refusal (conditions (Explain c.args.query) s)) c.explain.result) c.self.view_is c.explain.ensures.due

pub returns-clause-lines : goal.returns-clause-lines
returns-clause-lines c =
    subst (λ (s : State). IfOk c.explain.result (λ lines. lines ≡ plan_in s c.args.query)) c.self.view_is c.explain.ensures.lines
