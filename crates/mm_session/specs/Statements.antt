-- The effect of running a prepared statement.
use Rattle.std.specs.Prelude.{◌≡◌, ◌≢◌, ◌⊎◌, ℕ, List, Option, Some, None, Result, Ok, IsTrue, length, slice_get}
use Rattle.std.specs.Option.{option_map}
use Rattle.mm_value.specs.declared.refusal.Refusal.{Refusal}
use Rattle.mm_value.specs.declared.refusal.Refusal.TheVariants.{Memory}
use Rattle.mm_value.specs.declared.values.Value.{Value}
use Rattle.mm_query.specs.Machine.{Outcome, refused_outcome}
use Rattle.mm_query.specs.State.{State}
use Rattle.mm_query.specs.declared.command.Command.{Command}
use Rattle.mm_query.specs.declared.command.Command.TheVariants.{Explain}
use Rattle.mm_query.specs.declared.query.Query.{Query}
use Rattle.mm_schema.specs.declared.column.Column.{Column}
use Rattle.mm_lang.specs.Answering.{outcome_of}
use Rattle.mm_lang.specs.Reading.{command_takes_memory}
use Rattle.mm_lang.specs.Templates.{holes_of, template_of}
use Rattle.mm_statement.specs.Filling.{IsFilling}
use Rattle.mm_statement.specs.Holes.{hole_count}
use Rattle.mm_session.specs.Columns.{AreColumnsOf}
use Rattle.mm_session.specs.Kinds.{kind_of, query_of}
use Rattle.mm_session.specs.declared.misuse.ColumnsError.{ColumnsError}
use Rattle.mm_session.specs.declared.misuse.ColumnsError.TheVariants as columns
use Rattle.mm_session.specs.declared.misuse.Misuse.{Misuse}
use Rattle.mm_session.specs.declared.misuse.Misuse.TheVariants.{NoPlan, NoSuchStatement, WrongNumberOfValues}
use Rattle.mm_session.specs.declared.statement_kind.StatementKind.{StatementKind}

-- The line of a slot, if the slot exists and has a statement.
abbrev pub line_found : Option (Option (List ℕ)) → Option (List ℕ)
line_found None = None
line_found (Some line) = line

-- The line of the statement with a number, if there is one.
abbrev pub line_at : ℕ → List (Option (List ℕ)) → Option (List ℕ)
line_at number lines = line_found (slice_get lines number)

-- The number of holes of the statement with a number, if there is one.
abbrev pub parameters_at : ℕ → List (Option (List ℕ)) → Option ℕ
parameters_at number lines = option_map (λ line. hole_count (holes_of line)) (line_at number lines)

-- This is the kind of the command that a statement's line reads as, or None if there is no statement.
abbrev pub IsKindOf : Option (List ℕ) → Option StatementKind → Type 0
IsKindOf None kind = kind ≡ None
IsKindOf (Some line) kind = (command : Command) × (template_of line ≡ Ok command) × (kind ≡ Some (kind_of command))

-- These are the columns of the rows that a statement returns.
abbrev pub AreColumnsFound : Option (List ℕ) → State → List Column → Type 0
AreColumnsFound found state columns = (line : List ℕ) × (found ≡ Some line) × AreColumnsOf line state columns

-- The error is correct: `NoSuchStatement` only without a statement, and `Memory` only with one.
abbrev pub LacksColumns : Option (List ℕ) → ColumnsError → Type 0
LacksColumns found columns.NoSuchStatement = found ≡ None
LacksColumns found columns.Memory = (line : List ℕ) × (found ≡ Some line)

-- The outcome is that of the command with the values in its holes: its step, or the refusal of a value.
abbrev pub LeadsFilled : List ℕ → List Value → Command → State → Outcome → Type 0
LeadsFilled line values command before outcome =
    (filled : Result Command Refusal) × IsFilling (holes_of line) values command filled × (outcome ≡ outcome_of filled before)

-- An outcome of running a statement: that of its command with the values in its holes, or a failed allocation if the command allocates.
pub record Runs (line : List ℕ) (values : List Value) (before : State) (outcome : Outcome) : Type 0 where
  pub command : Command
  pub read : template_of line ≡ Ok command
  pub leads : LeadsFilled line values command before outcome ⊎ ((outcome ≡ refused_outcome Memory before) × IsTrue (command_takes_memory command))

-- There is a statement with as many holes as values, and this is an outcome of running it.
pub record RunsFound (found : Option (List ℕ)) (values : List Value) (before : State) (outcome : Outcome) : Type 0 where
  pub line : List ℕ
  pub is : found ≡ Some line
  pub count : length values ≡ hole_count (holes_of line)
  pub runs : Runs line values before outcome

-- An outcome of explaining a statement: that of EXPLAIN with its query and the values in its holes, or a failed allocation.
pub record Explains (line : List ℕ) (values : List Value) (before : State) (outcome : Outcome) : Type 0 where
  pub command : Command
  pub query : Query
  pub read : template_of line ≡ Ok command
  pub asks : query_of command ≡ Some query
  pub leads : LeadsFilled line values (Explain query) before outcome ⊎ (outcome ≡ refused_outcome Memory before)

-- There is a statement with as many holes as values, and this is an outcome of explaining it.
pub record ExplainsFound (found : Option (List ℕ)) (values : List Value) (before : State) (outcome : Outcome) : Type 0 where
  pub line : List ℕ
  pub is : found ≡ Some line
  pub count : length values ≡ hole_count (holes_of line)
  pub explains : Explains line values before outcome

-- The misuse is correct: there is no statement, or it has more or fewer holes than values.
abbrev pub IsMisused : Option (List ℕ) → ℕ → Misuse → Type 0
IsMisused found count NoSuchStatement = found ≡ None
IsMisused found count WrongNumberOfValues = (line : List ℕ) × (found ≡ Some line) × (count ≢ hole_count (holes_of line))
IsMisused found count NoPlan = ⊥

-- The line reads as a command that is neither a SELECT nor an EXPLAIN.
abbrev pub LacksPlan : List ℕ → Type 0
LacksPlan line = (command : Command) × (template_of line ≡ Ok command) × (query_of command ≡ None)

-- The misuse is correct: there is no statement, it has no query, or it has more or fewer holes than values.
abbrev pub IsUnexplained : Option (List ℕ) → ℕ → Misuse → Type 0
IsUnexplained found count NoPlan = (line : List ℕ) × (found ≡ Some line) × LacksPlan line
IsUnexplained found count NoSuchStatement = IsMisused found count NoSuchStatement
IsUnexplained found count WrongNumberOfValues = IsMisused found count WrongNumberOfValues
