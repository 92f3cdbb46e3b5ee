-- Answers as replies.
use Rattle.mm_query.specs.declared.reply.Reply.{Reply}
use Rattle.mm_query.specs.declared.reply.Reply.TheVariants as reply
use Rattle.mm_txn.specs.declared.answer.Answer.{Answer}
use Rattle.mm_txn.specs.declared.answer.Answer.TheVariants as answer

-- The reply for an answer.
abbrev pub reply_of : Answer → Reply
reply_of (answer.Rows rows) = reply.Rows rows
reply_of (answer.Steps lines) = reply.Steps lines
reply_of (answer.Listing listing) = reply.Listing listing
reply_of (answer.Refused refusal) = reply.Refused refusal
