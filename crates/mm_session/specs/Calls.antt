-- Calls on a session, made one after another, and their calls on the database.
use Rattle.std.specs.Prelude.{◌≡◌, ◌⊎◌, ◌++◌, ◌∷◌, ℕ, List, [], Option, Some, None, Result, Ok}
use Rattle.mm_value.specs.declared.refusal.Refusal.{Refusal}
use Rattle.mm_value.specs.declared.values.Value.{Value}
use Rattle.mm_schema.specs.Name.{IsName}
use Rattle.mm_query.specs.State.{first_state}
use Rattle.mm_query.specs.declared.command.Command.{Command}
use Rattle.mm_query.specs.declared.command.Command.TheVariants as command
use Rattle.mm_query.specs.declared.query.Query.{Query}
use Rattle.mm_lang.specs.Reading.{reading}
use Rattle.mm_lang.specs.Templates.{holes_of, template_of}
use Rattle.mm_statement.specs.Filling.{IsFilling}
use Rattle.mm_txn.specs.Releasing.{Call}
use Rattle.mm_txn.specs.Releasing.Call.{Run as RunCommand, Release as ReleaseSavepoint}
use Rattle.mm_session.specs.Appending.{Appends, insert_of}
use Rattle.mm_session.specs.Kinds.{query_of}
use Rattle.mm_session.specs.Session.{SessionState, AnswersLine, ExplainsStatement, Finalizes, IsPrepared, Releases, RunsStatement}
use Rattle.mm_session.specs.Statements.{line_at}
use Rattle.mm_session.specs.declared.column_array.ColumnArray.{ColumnArray}
use Rattle.mm_session.specs.declared.column_array.NotColumns.{NotColumns}
use Rattle.mm_session.specs.declared.misuse.Misuse.{Misuse}

-- A call on a session, with its arguments. A load executes each line of its script. All other calls leave the session as it is.
pub data SessionCall : Type 0 where
  Execute : (line : List ℕ) → SessionCall
  Append : (table : List ℕ) (columns : List ColumnArray) → SessionCall
  Prepare : (line : List ℕ) → SessionCall
  Run : (number : ℕ) (values : List Value) → SessionCall
  Explain : (number : ℕ) (values : List Value) → SessionCall
  Finalize : (number : ℕ) → SessionCall
  Release : (name : List ℕ) → SessionCall

-- The effect of a call on a session, whatever the call returns.
abbrev pub Does : SessionCall → SessionState → SessionState → Type 0
Does (Execute line) old new = AnswersLine line old new
Does (Append table columns) old new = (result : Result (Unit {0}) NotColumns) × Appends table columns old new result
Does (Prepare line) old new = (result : Result ℕ Refusal) × IsPrepared line old new result
Does (Run number values) old new = (result : Result (Unit {0}) Misuse) × RunsStatement number values old new result
Does (Explain number values) old new = (result : Result (Unit {0}) Misuse) × ExplainsStatement number values old new result
Does (Finalize number) old new = (result : Result (Unit {0}) Misuse) × Finalizes number old new result
Does (Release name) old new = (result : Result (Unit {0}) Refusal) × Releases name old new result

-- Calls made one after another lead from a session to another.
abbrev pub LeadTo : List SessionCall → SessionState → SessionState → Type 0
LeadTo [] old new = new ≡ old
LeadTo (call ∷ calls) old new = (between : SessionState) × Does call old between × LeadTo calls between new

-- A new session: an empty database, no statements, no reply, and no changed row.
abbrev pub first_session : SessionState
first_session = record { state = first_state; lines = []; reply = None; changes = 0 }

-- ---- calls on the database

-- A run of a statement runs the command of its line, with the values in its holes.
pub record AsksFilled (number : ℕ) (values : List Value) (lines : List (Option (List ℕ))) (asked : Call) : Type 0 where
  pub line : List ℕ
  pub is : line_at number lines ≡ Some line
  pub template : Command
  pub read : template_of line ≡ Ok template
  pub filled : Command
  pub fills : IsFilling (holes_of line) values template (Ok filled)
  pub same : asked ≡ RunCommand filled

-- EXPLAIN of a statement runs the EXPLAIN of its query, with the values in its holes.
pub record AsksExplained (number : ℕ) (values : List Value) (lines : List (Option (List ℕ))) (asked : Call) : Type 0 where
  pub line : List ℕ
  pub is : line_at number lines ≡ Some line
  pub template : Command
  pub read : template_of line ≡ Ok template
  pub query : Query
  pub has : query_of template ≡ Some query
  pub filled : Command
  pub fills : IsFilling (holes_of line) values (command.Explain query) (Ok filled)
  pub same : asked ≡ RunCommand filled

-- The call that a session makes on the database, if the statements have these lines. A line runs the command that it reads as, and
-- appending runs the INSERT of the rows. Preparing or deleting a statement makes no call.
abbrev pub Asks : SessionCall → List (Option (List ℕ)) → Call → Type 0
Asks (Execute line) lines asked = (own : Command) × (reading line ≡ Ok own) × (asked ≡ RunCommand own)
Asks (Append table columns) lines asked = (own : Command) × (insert_of table columns ≡ Ok own) × (asked ≡ RunCommand own)
Asks (Prepare line) lines asked = ⊥
Asks (Run number values) lines asked = AsksFilled number values lines asked
Asks (Explain number values) lines asked = AsksExplained number values lines asked
Asks (Finalize number) lines asked = ⊥
Asks (Release name) lines asked = IsName name × (asked ≡ ReleaseSavepoint name)

-- The calls on the database that a call on a session made: its own call, or none.
abbrev pub IsDoneBy : SessionCall → SessionState → List Call → Type 0
IsDoneBy call old done = (done ≡ []) ⊎ ((asked : Call) × Asks call old.lines asked × (done ≡ asked ∷ []))

-- Calls made one after another lead from a session to another, and made these calls on the database, in order.
abbrev pub AreDoneBy : List SessionCall → SessionState → List Call → SessionState → Type 0
AreDoneBy [] old done new = (done ≡ []) × (new ≡ old)
AreDoneBy (call ∷ calls) old done new =
    (between : SessionState) × (own : List Call) × (later : List Call) × Does call old between × IsDoneBy call old own
    × AreDoneBy calls between later new × (done ≡ own ++ later)
