use Rattle.std.proofs.Common.{Some, refl}
use Rattle.mm_query.specs.Machine.{refused_outcome}
use Rattle.mm_query.specs.declared.command.Command.TheVariants.{Select}
use Rattle.mm_query.specs.declared.reply.Reply.TheVariants.{Rows}
use Rattle.mm_reply.proofs.DueSteps.{due_leads, query_shown}
use Rattle.mm_reply.proofs.writing.WatchedReplySink.take_selected.Goals as goal

pub returns-in-Ok : goal.returns-in-Ok
returns-in-Ok g c query bound =
    let state = c.args.database.now in
    let rows = c.in-Ok.rows in
    record {
      outcome = record { reply = Some (Rows rows); state = state };
      is = query_shown query state rows (c.in-Ok.ensures.due query bound) (c.in-Ok.ensures.rows query bound);
      state = refl;
      took = c.send_shown.ensures;
    }

pub returns-in-Err : goal.returns-in-Err
returns-in-Err g c query bound =
    let state = c.args.database.now in
    let refusal = c.in-Err.refusal in
    record {
      outcome = refused_outcome refusal state;
      is = due_leads (Select query) state refusal refl (c.in-Err.ensures.due query bound);
      state = refl;
      took = c.send.ensures;
    }
