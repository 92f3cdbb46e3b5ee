-- Outcomes whose replies go to a sink.
use Rattle.std.specs.Prelude.{◌≡◌, ℕ, Bool, true, false, List, Option, Result, Ok, Err}
use Rattle.mm_value.specs.declared.refusal.Refusal.{Refusal}
use Rattle.mm_query.specs.Machine.{Outcome}
use Rattle.mm_query.specs.State.{State}
use Rattle.mm_query.specs.declared.command.Command.{Command}
use Rattle.mm_query.specs.declared.command.Command.TheVariants.{Define}
use Rattle.mm_query.specs.declared.reply.Reply.{Reply}
use Rattle.mm_lang.specs.Answering.{answer}

-- There is such an outcome: the sink took its reply, and the state after the call is that of the outcome.
pub record Delivers {S T : Type 0} (takes : S → S → Option Reply → T → Type 0) (old new : S) (result : T) (after : State)
    (IsOutcome : Outcome → Type 0) : Type 0 where
  pub outcome : Outcome
  pub is : IsOutcome outcome
  pub state : after ≡ outcome.state
  pub took : takes old new outcome.reply result

-- An outcome of executing a line, whether an allocation fails or not.
abbrev pub IsAnswerTo : List ℕ → State → Outcome → Type 0
IsAnswerTo line before outcome = (choice : Bool) × (outcome ≡ answer choice line before)

-- Whether the command is a definition, which changes the catalog.
abbrev pub is_definition : Command → Bool
is_definition (Define definition) = true
is_definition command = false

-- Whether a definition was read.
abbrev pub defines : Result Command Refusal → Bool
defines (Ok command) = is_definition command
defines (Err refusal) = false
