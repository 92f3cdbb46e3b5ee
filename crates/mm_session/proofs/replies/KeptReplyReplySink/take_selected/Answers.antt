use Rattle.std.proofs.Common.{refl}
use Rattle.mm_session.specs.steps.Kept.{reply_kept}
use Rattle.mm_session.proofs.replies.KeptReplyReplySink.take_selected.Goals as goal

pub returns : goal.returns
returns c query bound = record {
  outcome = record { reply = reply_kept c.select.new.rows c.select.new.kept; state = c.args.database.now };
  is = c.select.ensures query bound;
  state = refl;
  took = refl;
}
