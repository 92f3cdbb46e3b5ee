-- The outcome of a line.
use Rattle.std.specs.Prelude.{◌≡◌, ◌⊎◌, ℕ, Bool, ◌&&◌, if◌then◌else◌, IsTrue, List, Result, Ok, Err}
use Rattle.mm_value.specs.declared.refusal.Refusal.{Refusal}
use Rattle.mm_value.specs.declared.refusal.Refusal.TheVariants.{Memory}
use Rattle.mm_query.specs.Machine.{Outcome, refused_outcome, step}
use Rattle.mm_query.specs.State.{State}
use Rattle.mm_query.specs.declared.command.Command.{Command}
use Rattle.mm_lang.specs.Reading.{command_takes_memory, reading, takes_memory}

-- The outcome of a reading: the step of the command, or the refusal.
abbrev pub outcome_of : Result Command Refusal → State → Outcome
outcome_of (Ok command) state = step command state
outcome_of (Err refusal) state = refused_outcome refusal state

-- The outcome of a line. If allocations fail and the line may fail with Memory, the reply is Memory and the state is unchanged.
abbrev pub answer : Bool → List ℕ → State → Outcome
answer is_refused line state =
    if is_refused && takes_memory line then refused_outcome Memory state else outcome_of (reading line) state

-- The outcomes of a reading: the step of the command, or Memory if the command may fail so; or the refusal.
abbrev pub MayLeadTo : Result Command Refusal → State → Outcome → Type 0
MayLeadTo (Ok command) state outcome =
    (outcome ≡ step command state) ⊎ ((outcome ≡ refused_outcome Memory state) × IsTrue (command_takes_memory command))
MayLeadTo (Err refusal) state outcome = outcome ≡ refused_outcome refusal state
