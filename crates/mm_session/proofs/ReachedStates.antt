-- Every state that commands lead to has typed rows and bound queries.
use Rattle.std.proofs.Common.{List, [], ◌∷◌}
use Rattle.mm_query.specs.Machine.{after_all, step}
use Rattle.mm_query.specs.Standing.{AreBound, HasQueries}
use Rattle.mm_query.specs.State.{State, first_state}
use Rattle.mm_query.specs.declared.command.Command.{Command}
use Rattle.mm_laws.specs.Typing.{IsTyped}
use Rattle.mm_laws.proofs.KeyOrder.{IsKept, kept_at_first, kept_by_change, kept_by_definition}
use Rattle.mm_laws.proofs.StandingQueries.{watched_at_first, watched_by_step}
use Rattle.mm_laws.proofs.Throughout.{HoldsThroughout, held_by_all}
use Rattle.mm_laws.proofs.TypedSteps.{typed_at_first, typed_by_step}

-- each step keeps these properties
pub record IsSound (state : State) : Type 0 where
  pub kept : HoldsThroughout IsKept state
  pub beside : HasQueries state
  pub bound : AreBound state
  pub typed : IsTyped state

sound_at_first : IsSound first_state
sound_at_first = record {
  kept = record { rows = kept_at_first; saved = tt };
  beside = watched_at_first.0;
  bound = watched_at_first.1;
  typed = typed_at_first;
}

sound_by_step : (command : Command) (state : State) → IsSound state → IsSound (step command state).state
sound_by_step command state sound =
    let watched = watched_by_step command state sound.beside sound.bound in
    record {
      kept = held_by_all IsKept kept_by_definition kept_by_change (command ∷ []) state sound.kept;
      beside = watched.0;
      bound = watched.1;
      typed = typed_by_step command state sound.kept.rows.distinct sound.beside sound.bound sound.typed;
    }

sound_by_all : (commands : List Command) (state : State) → IsSound state → IsSound (after_all commands state)
sound_by_all [] state sound = sound
sound_by_all (command ∷ commands) state sound = sound_by_all commands (step command state).state (sound_by_step command state sound)

-- So all rows and queries of a state that commands lead to are typed and bound.
pub reached_sound : (commands : List Command) → IsSound (after_all commands first_state)
reached_sound commands = sound_by_all commands first_state sound_at_first
