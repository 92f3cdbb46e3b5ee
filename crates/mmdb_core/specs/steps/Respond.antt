-- The effect of one line: its reply was written, and the state is the one after it.
use Rattle.std.specs.Prelude.{◌≡◌, Bool, false, List, [], ℕ, Option, Some, None, Result, Ok, Err}
use Rattle.std.specs.Io.KnownBytes.{Keeps}
use Rattle.mm_lang.specs.Answering.{answer}
use Rattle.mm_lang.specs.Lines.{without_return}
use Rattle.mm_reply.specs.Writing.{WritesReply}
use Rattle.mm_value.specs.Watched.{inner_of, has_failed}
use Rattle.mm_value.specs.declared.device.Watched.{Watched}
use Rattle.mm_query.specs.State.{State}
use Rattle.mmdb_core.specs.steps.Input.{Advances, Finds, PassesLine, StopsInLine}
use Rattle.mmdb_core.specs.declared.run_error.RunError.{RunError}
use Rattle.mmdb_core.specs.declared.run_error.RunError.TheVariants.{Read, Write, TooLong}
use Rattle.mmdb_core.specs.declared.input.Input.{Input}
use Rattle.mmdb_core.specs.declared.input.Next.TheVariants.{End}

-- The reply to a line was written, whether or not its allocations failed, and the state is the one after the line.
pub record RepliesToLine {W E : Type 0} (contents : W → Option (List ℕ)) (old new : Watched W) (line : List ℕ) (before after : State)
    (result : Result Bool E) : Type 0 where
  pub choice : Bool
  pub state : after ≡ (answer choice line before).state
  pub reply : WritesReply contents old new (answer choice line before).reply result

-- The next line was dropped from the input, and its reply was written.
pub record PassesReplied {R W E : Type 0} (remaining : R → Option (List ℕ)) (contents : W → Option (List ℕ)) (reader later : Watched R) (input next : Input)
    (before after : State) (old new : Watched W) (result : Result Bool E) : Type 0 where
  pub line : List ℕ
  pub passes : PassesLine remaining reader later input next line
  pub answers : RepliesToLine contents old new (without_return line) before after result

-- Nothing was written.
pub record WritesNothing {W : Type 0} (contents : W → Option (List ℕ)) (old new : Watched W) : Type 0 where
  pub kept : Keeps (contents (inner_of old)) (contents (inner_of new))
  pub unfailed : has_failed new ≡ false

-- A run continues after a line, ends with its input, or ends early.
abbrev pub GoesOn : {R W : Type 0} → (R → Option (List ℕ)) → (W → Option (List ℕ)) → Watched R → Watched R → Input → Input → State → State → Watched W
    → Watched W → Result (Option Bool) RunError → Type 0
GoesOn remaining contents reader later input next before after old new (Ok (Some is_refused)) =
    PassesReplied {E = RunError} remaining contents reader later input next before after old new (Ok is_refused)
GoesOn remaining contents reader later input next before after old new (Ok None) =
    Advances remaining reader later input next [] × Finds next End × WritesNothing contents old new
GoesOn remaining contents reader later input next before after old new (Err Read) =
    StopsInLine remaining reader later input next Read × WritesNothing contents old new
GoesOn remaining contents reader later input next before after old new (Err Write) =
    PassesReplied remaining contents reader later input next before after old new (Err Write)
GoesOn remaining contents reader later input next before after old new (Err TooLong) =
    StopsInLine remaining reader later input next TooLong × WritesNothing contents old new

-- How a run continues after the reply to a line: with the next line, or it ends because the writer failed.
abbrev pub goes_on_of : {E : Type 0} → Result Bool E → Result (Option Bool) RunError
goes_on_of (Ok is_refused) = Ok (Some is_refused)
goes_on_of (Err e) = Err Write
