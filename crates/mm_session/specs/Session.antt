-- A session: a database, the lines of its prepared statements, the reply to its last call, and a count of changed rows.
use Rattle.std.specs.Prelude.{◌≡◌, ◌⊎◌, ◌+◌, ◌%◌, ◌^◌, ◌<◌, ◌++◌, ◌∷◌, if◌then◌else◌, ℕ, Bool, List, [], Option, Some, None, Result, Ok, Err}
use Rattle.std.specs.Prelude.{length, slice_get, slice_set}
use Rattle.mm_value.specs.declared.refusal.Refusal.{Refusal}
use Rattle.mm_value.specs.declared.refusal.Refusal.TheVariants.{Memory, Syntax}
use Rattle.mm_value.specs.declared.values.Value.{Value}
use Rattle.mm_schema.specs.Name.{is_name}
use Rattle.mm_schema.specs.Refused.{first_refusal}
use Rattle.mm_query.specs.Machine.{Outcome, conditions}
use Rattle.mm_query.specs.State.{State}
use Rattle.mm_query.specs.declared.command.Command.{Command}
use Rattle.mm_query.specs.declared.command.Command.TheVariants.{RollbackTo}
use Rattle.mm_query.specs.declared.reply.Reply.{Reply}
use Rattle.mm_query.specs.declared.reply.Reply.TheVariants.{Count}
use Rattle.mm_lang.specs.Answering.{answer}
use Rattle.mm_lang.specs.Templates.{template_of}
use Rattle.mm_txn.specs.Releasing.{after_release}
use Rattle.mm_session.specs.Statements.{ExplainsFound, IsMisused, IsUnexplained, RunsFound, line_at}
use Rattle.mm_session.specs.declared.misuse.Misuse.{Misuse}
use Rattle.mm_session.specs.declared.misuse.Misuse.TheVariants.{NoSuchStatement}

-- The database's state; the line of each statement at its number, or None if it was deleted; the last reply, if any; and the number of
-- rows that all calls changed, modulo 2^64.
pub record SessionState : Type 0 where
  pub state : State
  pub lines : List (Option (List ℕ))
  pub reply : Option Reply
  pub changes : ℕ

-- The outcome of the last call: its reply and the state after it.
abbrev pub outcome_in : SessionState → Outcome
outcome_in session = record { reply = session.reply; state = session.state }

-- The count of changed rows after a call with this reply: a reply that counts rows adds them, and any other adds nothing.
abbrev pub changes_after : Option Reply → ℕ → ℕ
changes_after (Some (Count rows)) before = (before + rows) % 2 ^ 64
changes_after reply before = before

-- The session executed the line, or an allocation failed; the statements are unchanged.
pub record AnswersLine (line : List ℕ) (old new : SessionState) : Type 0 where
  pub choice : Bool
  pub outcome : outcome_in new ≡ answer choice line old.state
  pub lines : new.lines ≡ old.lines
  pub changes : new.changes ≡ changes_after new.reply old.changes

-- Every number below this one has a statement.
abbrev pub AreTaken : ℕ → List (Option (List ℕ)) → Type 0
AreTaken number lines = (k : ℕ) → k < number → (line : List ℕ) × (line_at k lines ≡ Some line)

-- The line is stored at a free number: after the last one, or at that of a deleted statement.
abbrev pub TakesNumber : List ℕ → ℕ → List (Option (List ℕ)) → List (Option (List ℕ)) → Type 0
TakesNumber line number old new =
    ((number ≡ length old) × (new ≡ old ++ Some line ∷ []))
    ⊎ ((slice_get old number ≡ Some None) × (new ≡ slice_set old number (Some line)))

-- The line, which reads as a command with holes, is now the statement with the least free number.
pub record AddsStatement (line : List ℕ) (number : ℕ) (old new : SessionState) : Type 0 where
  pub command : Command
  pub read : template_of line ≡ Ok command
  pub lines : TakesNumber line number old.lines new.lines
  pub least : AreTaken number old.lines
  pub state : new.state ≡ old.state
  pub reply : new.reply ≡ old.reply
  pub changes : new.changes ≡ old.changes

-- The line is now a statement; or it cannot be read or an allocation failed, and nothing changed.
abbrev pub IsPrepared : List ℕ → SessionState → SessionState → Result ℕ Refusal → Type 0
IsPrepared line old new (Ok number) = AddsStatement line number old new
IsPrepared line old new (Err refusal) = (new ≡ old) × ((template_of line ≡ Err refusal) ⊎ (refusal ≡ Memory))

-- The statement ran with the values; all statements are unchanged.
pub record RunsAt (number : ℕ) (values : List Value) (old new : SessionState) : Type 0 where
  pub runs : RunsFound (line_at number old.lines) values old.state (outcome_in new)
  pub lines : new.lines ≡ old.lines
  pub changes : new.changes ≡ changes_after new.reply old.changes

-- The statement ran with the values; or there is none, or the number of values is wrong, and nothing changed.
abbrev pub RunsStatement : ℕ → List Value → SessionState → SessionState → Result (Unit {0}) Misuse → Type 0
RunsStatement number values old new (Ok done) = RunsAt number values old new
RunsStatement number values old new (Err misuse) = (new ≡ old) × IsMisused (line_at number old.lines) (length values) misuse

-- EXPLAIN ran with the statement's query and the values; the statements and the count of changed rows are unchanged.
pub record ExplainsAt (number : ℕ) (values : List Value) (old new : SessionState) : Type 0 where
  pub explains : ExplainsFound (line_at number old.lines) values old.state (outcome_in new)
  pub lines : new.lines ≡ old.lines
  pub changes : new.changes ≡ old.changes

-- EXPLAIN ran with the statement's query and the values; or the call was a misuse, and nothing changed.
abbrev pub ExplainsStatement : ℕ → List Value → SessionState → SessionState → Result (Unit {0}) Misuse → Type 0
ExplainsStatement number values old new (Ok done) = ExplainsAt number values old new
ExplainsStatement number values old new (Err misuse) = (new ≡ old) × IsUnexplained (line_at number old.lines) (length values) misuse

-- The statement was deleted, and nothing else changed.
pub record TakesAway (number : ℕ) (old new : SessionState) : Type 0 where
  pub line : List ℕ
  pub stands : line_at number old.lines ≡ Some line
  pub lines : new.lines ≡ slice_set old.lines number None
  pub state : new.state ≡ old.state
  pub reply : new.reply ≡ old.reply
  pub changes : new.changes ≡ old.changes

-- The statement was deleted; or there is none, and nothing changed.
abbrev pub Finalizes : ℕ → SessionState → SessionState → Result (Unit {0}) Misuse → Type 0
Finalizes number old new (Ok done) = TakesAway number old new
Finalizes number old new (Err misuse) = (new ≡ old) × (misuse ≡ NoSuchStatement) × (line_at number old.lines ≡ None)

-- The refusal of releasing a savepoint, if any: a syntax error if the bytes are not a name, and otherwise that of ROLLBACK TO.
abbrev pub release_refusal : List ℕ → State → Option Refusal
release_refusal name state = if is_name name then first_refusal (conditions (RollbackTo name) state) else Some Syntax

-- The latest savepoint with the name was released; statements, reply and count are unchanged.
pub record ReleasesAt (name : List ℕ) (old new : SessionState) : Type 0 where
  pub unrefused : release_refusal name old.state ≡ None
  pub state : new.state ≡ after_release name old.state
  pub lines : new.lines ≡ old.lines
  pub reply : new.reply ≡ old.reply
  pub changes : new.changes ≡ old.changes

-- The latest savepoint with the name was released; or the release was refused, and nothing changed.
abbrev pub Releases : List ℕ → SessionState → SessionState → Result (Unit {0}) Refusal → Type 0
Releases name old new (Ok done) = ReleasesAt name old new
Releases name old new (Err refusal) = (new ≡ old) × (release_refusal name old.state ≡ Some refusal)
