-- The commands that lines read as.
use Rattle.std.proofs.Common.{◌≡◌, ℕ, List, [], ◌∷◌, Result, Ok, Err, refl}
use Rattle.std.specs.List.{AllByRecursion}
use Rattle.mm_value.specs.declared.refusal.Refusal.{Refusal}
use Rattle.mm_query.specs.Machine.{after_all, step}
use Rattle.mm_query.specs.State.{State}
use Rattle.mm_query.specs.declared.command.Command.{Command}
use Rattle.mm_lang.specs.Answering.{outcome_of}
use Rattle.mm_lang.specs.Reading.{reading}
use Rattle.mm_dump.specs.Dumps.{after_lines}

abbrev with_read : Result Command Refusal → List Command → List Command
with_read (Ok c) commands = c ∷ commands
with_read (Err refusal) commands = commands

-- The commands of lines, without lines that read as none.
abbrev pub commands_read : List (List ℕ) → List Command
commands_read [] = []
commands_read (line ∷ lines) = with_read (reading line) (commands_read lines)

-- Lines lead to the state of their commands.
pub lines_lead : (lines : List (List ℕ)) (state : State) → after_lines lines state ≡ after_all (commands_read lines) state
lines_lead [] state = refl
lines_lead (line ∷ lines) state = by (reading line) (lines_lead lines)
  where
    by : (r : Result Command Refusal) → ((s : State) → after_lines lines s ≡ after_all (commands_read lines) s)
        → after_lines lines (outcome_of r state).state ≡ after_all (with_read r (commands_read lines)) state
    by (Ok c) later = later (step c state).state
    by (Err refusal) later = later state

-- A property of each command that a line reads as holds for all of them.
pub all_read : (P : Command → Type 0) → ((line : List ℕ) (c : Command) → reading line ≡ Ok c → P c) → (lines : List (List ℕ))
    → AllByRecursion P (commands_read lines)
all_read P each [] = tt
all_read P each (line ∷ lines) = by (reading line) refl (all_read P each lines)
  where
    by : (r : Result Command Refusal) → reading line ≡ r → AllByRecursion P (commands_read lines) → AllByRecursion P (with_read r (commands_read lines))
    by (Ok c) is later = (each line c is, later)
    by (Err refusal) is later = later
