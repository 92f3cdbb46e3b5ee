-- The reply to the last call of a session.
use Rattle.std.specs.Prelude.{Option, Some, None}
use Rattle.mm_query.specs.declared.reply.Reply.{Reply}
use Rattle.mm_query.specs.declared.reply.Reply.TheVariants as reply
use Rattle.mm_session.specs.declared.replies.LastReply.{LastReply}
use Rattle.mm_session.specs.declared.replies.LastReply.TheVariants as last

-- The reply that a `LastReply` borrows, if there is one.
abbrev pub reply_lent : LastReply → Option Reply
reply_lent last.Nothing = None
reply_lent (last.Rows rows) = Some (reply.Rows rows.now)
reply_lent (last.Other reply) = Some reply.now
