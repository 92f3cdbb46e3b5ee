-- Replies that are written.
use Rattle.std.specs.Prelude.{◌≡◌, ℕ, Bool, true, false, List, Option, Some, None, Result, IfOk}
use Rattle.mm_value.specs.Device.{Writes}
use Rattle.mm_value.specs.declared.device.Watched.{Watched}
use Rattle.mm_query.specs.declared.reply.Reply.{Reply}
use Rattle.mm_query.specs.declared.reply.Reply.TheVariants.{Done, Count, Rows, Steps, Listing, Refused}
use Rattle.mm_lang.specs.ReplyText.{text_of}

-- The reply is an `error`.
abbrev pub is_error : Option Reply → Bool
is_error None = false
is_error (Some Done) = false
is_error (Some (Count n)) = false
is_error (Some (Rows rows)) = false
is_error (Some (Steps lines)) = false
is_error (Some (Listing told)) = false
is_error (Some (Refused refusal)) = true

-- The text of the reply was written, or a prefix of the text if the writer failed; the result says whether the reply is an `error`.
pub record WritesReply {W E : Type 0} (contents : W → Option (List ℕ)) (old new : Watched W) (reply : Option Reply)
    (result : Result Bool E) : Type 0 where
  pub writes : Writes contents old new result (text_of reply)
  pub refused : IfOk result (λ is_refused. is_refused ≡ is_error reply)
