-- A run of the machine of row lists over the lines of an input.
use Rattle.std.specs.Prelude.{◌≡◌, ◌↔◌, ℕ, ◌+◌, ◌<◌, ◌≤◌, Bool, false, if◌then◌else◌, List, [], ◌∷◌, ◌++◌, length, take, Option, Some, None}
use Rattle.std.specs.Io.KnownBytes.{Appends, Consumes, IsAtEnd}
use Rattle.mm_lang.specs.Answering.{answer}
use Rattle.mm_lang.specs.Lines.{lines_of, whole_lines_of}
use Rattle.mm_lang.specs.ReplyText.{text_of}
use Rattle.mm_value.specs.Device.{AppendsPrefix}
use Rattle.mm_value.specs.Watched.{inner_of}
use Rattle.mm_value.specs.declared.device.Watched.{Watched}
use Rattle.mm_query.specs.State.{State, first_state}
use Rattle.mm_query.specs.declared.reply.Reply.{Reply}
use Rattle.mm_reply.specs.Writing.{is_error}
use Rattle.mmdb_core.specs.declared.run_error.RunError.{RunError}
use Rattle.mmdb_core.specs.declared.run_error.RunError.TheVariants.{Read, Write, TooLong}
use Rattle.mmdb_core.specs.declared.limits.Totals.{Totals}

-- The replies that a run writes, and the number of `error` replies.
pub record Transcript : Type 0 where
  pub text : List ℕ
  pub refused : ℕ

-- One reply before the others.
abbrev pub before_others : Option Reply → Transcript → Transcript
before_others reply others =
    record { text = text_of reply ++ others.text; refused = (if is_error reply then 1 else 0) + others.refused }

-- The run over some lines. A choice for each line says whether its allocations fail; without a choice they succeed.
unfoldable pub transcript : List Bool → State → List (List ℕ) → Transcript
transcript choices state [] = record { text = []; refused = 0 }
transcript [] state (line ∷ lines) =
    before_others (answer false line state).reply (transcript [] (answer false line state).state lines)
transcript (choice ∷ choices) state (line ∷ lines) =
    before_others (answer choice line state).reply (transcript choices (answer choice line state).state lines)

-- The bytes appended are the replies of a run of the machine on the input's lines, in order, and nothing else; the totals count the lines
-- and the `error` replies.
pub record Answers (input : List ℕ) (old new : Option (List ℕ)) (totals : Totals) : Type 0 where
  pub choices : List Bool
  pub written : Appends old new (transcript choices first_state (lines_of input)).text
  pub lines : totals.lines ≡ length (lines_of input)
  pub refused : totals.refused ≡ (transcript choices first_state (lines_of input)).refused

-- A run reached the end of its input: its reader returned this input and has nothing left, and the replies to its lines were written.
pub record ReachedEnd {R : Type 0} (remaining : R → Option (List ℕ)) (reader after : Watched R) (limit : ℕ) (old new : Option (List ℕ))
    (totals : Totals) : Type 0 where
  pub input : List ℕ
  pub consumed : Consumes (remaining (inner_of reader)) (remaining (inner_of after)) input
  pub at_end : IsAtEnd (remaining (inner_of after))
  pub within : length input ≤ limit
  pub answers : Answers input old new totals

-- At most one byte more than the limit was read. The input was too long exactly if more than the limit was read and the writer did not
-- fail.
pub record TakesWithin {R : Type 0} (remaining : R → Option (List ℕ)) (old new : Watched R) (limit : ℕ) (IsTooLong IsUnfailed : Type 0) : Type 0 where
  pub bytes : List ℕ
  pub consumed : Consumes (remaining (inner_of old)) (remaining (inner_of new)) bytes
  pub within : length bytes ≤ limit + 1
  pub too_long : IsTooLong ↔ ((limit < length bytes) × IsUnfailed)

-- The replies to some lines were written, and nothing else; allocations may have failed for any of the lines.
pub record AnswersLines (lines : List (List ℕ)) (old new : Option (List ℕ)) : Type 0 where
  pub choices : List Bool
  pub written : Appends old new (transcript choices first_state lines).text

-- A prefix of the replies to some lines was written.
pub record AnswersFront (lines : List (List ℕ)) (old new : Option (List ℕ)) : Type 0 where
  pub choices : List Bool
  pub written : AppendsPrefix old new (transcript choices first_state lines).text

-- What a run that ended early wrote, by the bytes within the limit that its reader returned. If the reader failed or returned too much, the
-- replies to the lines that end with a line feed were written; if the writer failed, a prefix of the replies.
abbrev pub IsWritten : RunError → List ℕ → Option (List ℕ) → Option (List ℕ) → Type 0
IsWritten Read input old new = AnswersLines (whole_lines_of input) old new
IsWritten Write input old new = AnswersFront (lines_of input) old new
IsWritten TooLong input old new = AnswersLines (whole_lines_of input) old new

-- A run ended early: its reader returned some bytes, and the corresponding part of their replies was written.
pub record BrokeOff {R : Type 0} (remaining : R → Option (List ℕ)) (reader after : Watched R) (limit : ℕ) (old new : Option (List ℕ))
    (fault : RunError) : Type 0 where
  pub given : List ℕ
  pub consumed : Consumes (remaining (inner_of reader)) (remaining (inner_of after)) given
  pub within : length given ≤ limit + 1
  pub written : IsWritten fault (take limit given) old new
