use Rattle.std.proofs.Common.{Some, refl}
use Rattle.mm_query.specs.Machine.{Outcome}
use Rattle.mm_query.specs.declared.command.Command.TheVariants.{Change as ChangeCommand}
use Rattle.mm_reply.proofs.Catalogs.{leads_keep}
use Rattle.mm_reply.proofs.DueSteps.{step_leads}
use Rattle.mm_reply.proofs.bound_change.run_bound_change.Goals as goal

pub returns-clause-delivers : goal.returns-clause-delivers
returns-clause-delivers g c mutation bound =
    let outcome : Outcome = record { reply = Some c.change_bound.result; state = c.change_bound.new.self } in
    record {
      outcome = outcome;
      is = step_leads (ChangeCommand mutation) c.args.database.now outcome (λ may. refl) (c.change_bound.ensures.step mutation bound);
      state = refl;
      took = c.take.ensures;
    }

pub returns-clause-schema : goal.returns-clause-schema
returns-clause-schema g c =
    let before = c.args.database.now in
    let outcome : Outcome = record { reply = Some c.change_bound.result; state = c.change_bound.new.self } in
    let mutation = c.requires.bound.0 in
    leads_keep (ChangeCommand mutation) before outcome refl
    (step_leads (ChangeCommand mutation) before outcome (λ may. refl) (c.change_bound.ensures.step mutation c.requires.bound.1))
