use Rattle.std.proofs.Common.{◌≡◌, Some, true, false, inr, ⊎_elim, refl, rules}
use Rattle.mm_value.specs.declared.refusal.Refusal.TheVariants.{Memory}
use Rattle.mm_query.specs.Machine.{Outcome, refused_outcome}
use Rattle.mm_txn.specs.Answers.{reply_of}
use Rattle.mm_txn.specs.Questions.{is_question}
use Rattle.mm_reply.proofs.DueSteps.{command_leads, question_leads, question_takes}
use Rattle.mm_reply.proofs.responding.execute.Goals as goal

pub returns-then-is_question : goal.returns-then-is_question
returns-then-is_question g c =
    let state = c.args.database.now in
    let asks : is_question c.args.command ≡ true = search rules in
    let outcome : Outcome = record { reply = Some (reply_of c.ask.result); state = state } in
    ⊎_elim
    (λ took. record { outcome = outcome; is = question_leads c.args.command state outcome asks c.ask.ensures.step; state = refl; took = took })
    (λ took. record { outcome = refused_outcome Memory state; is = inr (refl, question_takes c.args.command asks); state = refl; took = took })
    c.take_answer.ensures

pub returns : goal.returns
returns g c =
    let asks : is_question c.args.command ≡ false = search rules in
    let outcome : Outcome = record { reply = c.execute.result; state = c.execute.new.self } in
    record {
      outcome = outcome;
      is = command_leads c.args.command c.args.database.now outcome asks c.execute.ensures.nothing c.execute.ensures.step;
      state = refl;
      took = c.take.ensures;
    }
