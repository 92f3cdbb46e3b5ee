-- The release of a savepoint.
use Rattle.std.specs.Prelude.{ℕ, ◌<◌, if◌then◌else◌, List, [], ◌∷◌, drop, is_none, length}
use Rattle.std.specs.Option.{option_map}
use Rattle.mm_schema.specs.Refused.{first_refusal}
use Rattle.mm_query.specs.Machine.{back_to, conditions, step}
use Rattle.mm_query.specs.State.{Saved, State, savepoints_of}
use Rattle.mm_query.specs.declared.command.Command.{Command}
use Rattle.mm_query.specs.declared.command.Command.TheVariants.{RollbackTo}

-- A release drops the latest savepoint with a name and those set after it. The savepoints before it remain, and nothing else changes.
abbrev pub after_release : List ℕ → State → State
after_release name state = record state {
  saved = option_map (λ (saved : Saved). record saved { savepoints = drop 1 (back_to name saved.savepoints) }) state.saved;
}

-- The latest savepoint with one name was set before the latest one with another: there are fewer savepoints up to it.
abbrev pub IsSetBefore : List ℕ → List ℕ → State → Type 0
IsSetBefore earlier later state = length (back_to earlier (savepoints_of state)) < length (back_to later (savepoints_of state))

-- A call: a command, or the release of the latest savepoint with a name.
pub data Call : Type 0 where
  Run : (command : Command) → Call
  Release : (name : List ℕ) → Call

-- The state after a call. A release is refused as ROLLBACK TO with the same name is, and then leaves the state unchanged.
abbrev pub after_call : Call → State → State
after_call (Run command) state = (step command state).state
after_call (Release name) state =
    if is_none (first_refusal (conditions (RollbackTo name) state)) then after_release name state else state

-- The state after some calls, made one after another.
abbrev pub after_calls : List Call → State → State
after_calls [] state = state
after_calls (call ∷ calls) state = after_calls calls (after_call call state)
