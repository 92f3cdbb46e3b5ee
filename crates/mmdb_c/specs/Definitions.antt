-- The lines that define tables, indexes and standing queries.
use Rattle.std.specs.Prelude.{◌≡◌, ◌≢◌, ◌⊎◌, ℕ, List, None, Some, length}
use Rattle.std.specs.Option.{option_map}
use Rattle.mm_value.specs.Refusals.{refusal_number}
use Rattle.mm_value.specs.declared.refusal.Refusal.{Refusal}
use Rattle.mm_value.specs.declared.refusal.Refusal.TheVariants.{Memory}
use Rattle.mm_dump.specs.Entries.{entry_text}
use Rattle.mm_session.specs.Definitions.{definition_refusal, entry_named}
use Rattle.mm_session.specs.Session.{SessionState}
use Rattle.mm_session.specs.declared.definition.DefinitionKind.{DefinitionKind}
use Rattle.mm_session.specs.declared.definition.DefinitionKind.TheVariants.{Index, StandingQuery, Table}
use Rattle.mm_session.specs.declared.statement_kind.StatementKind.TheVariants as command
use Rattle.mmdb_c.specs.Copying.{CopiesFront}
use Rattle.mmdb_c.specs.Kinds.{kind_number}
use Rattle.mmdb_c.specs.Statuses.{done, misuse}

-- The number of the kind of object that a definition creates: that of the command that creates it.
abbrev pub definition_number : DefinitionKind → ℕ
definition_number Table = kind_number command.Table
definition_number Index = kind_number command.Index
definition_number StandingQuery = kind_number command.Watch

-- No definition has this number.
abbrev pub DefinesNothing : ℕ → Type 0
DefinesNothing number = (kind : DefinitionKind) → definition_number kind ≢ number

-- As many bytes as fit of the line that defines the object with the name were copied, and its full length was written.
pub record GivesDefinition (number : ℕ) (name : List ℕ) (out_old out_new : List ℕ) (size status : ℕ) (session : SessionState) : Type 0 where
  pub kind : DefinitionKind
  pub numbered : definition_number kind ≡ number
  pub unrefused : definition_refusal kind name session.state ≡ None
  pub line : List ℕ
  pub is : option_map entry_text (entry_named kind name session.state) ≡ Some line
  pub copied : CopiesFront line out_old out_new
  pub size_is : size ≡ length line
  pub status_is : status ≡ done

-- The definition was refused, or an allocation failed.
pub record RefusesDefinition (number : ℕ) (name : List ℕ) (status : ℕ) (session : SessionState) : Type 0 where
  pub kind : DefinitionKind
  pub numbered : definition_number kind ≡ number
  pub refusal : Refusal
  pub is : (definition_refusal kind name session.state ≡ Some refusal) ⊎ (refusal ≡ Memory)
  pub status_is : status ≡ refusal_number refusal

-- The line that defines the object with the name was written; or the call failed, and nothing was written. A number of no kind is a misuse.
abbrev pub TellsDefinition : ℕ → List ℕ → List ℕ → List ℕ → ℕ → ℕ → ℕ → SessionState → SessionState → Type 0
TellsDefinition number name out_old out_new size_old size_new status old new =
    (new ≡ old) × (GivesDefinition number name out_old out_new size_new status old
    ⊎ ((out_new ≡ out_old) × (size_new ≡ size_old)
    × (((status ≡ misuse) × DefinesNothing number) ⊎ RefusesDefinition number name status old)))
