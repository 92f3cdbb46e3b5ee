-- The reply as a session stores it, with its rows in the buffer.
use Rattle.std.specs.Prelude.{List, Option, Some, None}
use Rattle.mm_value.specs.declared.values.Value.{Value}
use Rattle.mm_query.specs.declared.reply.Reply.{Reply}
use Rattle.mm_query.specs.declared.reply.Reply.TheVariants as reply
use Rattle.mm_session.specs.declared.replies.Kept.{Kept}
use Rattle.mm_session.specs.declared.replies.Kept.TheVariants as kept

-- The reply of a `Kept` and the rows of the buffer.
abbrev pub reply_kept : List (List Value) → Kept → Option Reply
reply_kept rows kept.Nothing = None
reply_kept rows kept.InBuffer = Some (reply.Rows rows)
reply_kept rows (kept.Other reply) = Some reply
