-- The status that a call returns, as a byte.
use Rattle.std.specs.Prelude.{ℕ, Option, Some, None, Result, Ok, Err}
use Rattle.mm_value.specs.Refusals.{refusal_number}
use Rattle.mm_value.specs.declared.refusal.Refusal.{Refusal}
use Rattle.mm_query.specs.declared.reply.Reply.{Reply}
use Rattle.mm_query.specs.declared.reply.Reply.TheVariants.{Done, Count, Rows, Steps, Listing, Refused}

-- The call succeeded, and its reply, if any, is "ok".
abbrev pub done : ℕ
done = 1

-- The reply has rows.
abbrev pub has_rows : ℕ
has_rows = 3

-- The least number of a refusal; lower statuses are successes.
abbrev pub first_refusal_number : ℕ
first_refusal_number = 10

-- The call was a misuse, and nothing changed.
abbrev pub misuse : ℕ
misuse = 100

-- The status of a reply.
abbrev pub status_of : Option Reply → ℕ
status_of None = 0
status_of (Some Done) = done
status_of (Some (Count n)) = 2
status_of (Some (Rows rows)) = has_rows
status_of (Some (Steps steps)) = 4
status_of (Some (Listing listing)) = 4
status_of (Some (Refused refusal)) = refusal_number refusal

-- The status of a call without a reply: done, or the number of its refusal.
abbrev pub status_of_result : {T : Type 0} → Result T Refusal → ℕ
status_of_result (Ok value) = done
status_of_result (Err refusal) = refusal_number refusal
