-- The effects of the calls on a session.
use Rattle.std.specs.Prelude.{◌≡◌, ◌≢◌, ◌⊎◌, ℕ, zero, suc, Bool, ◌≤◌, ◌<◌, List, [], Option, Some, None, Result, Ok, Err, drop, length, take}
use Rattle.std.specs.Result.{result_ok}
use Rattle.std.specs.Option.{option_map_or}
use Rattle.mm_value.specs.Refusals.{refusal_number}
use Rattle.mm_value.specs.declared.refusal.Refusal.{Refusal}
use Rattle.mm_value.specs.declared.refusal.Refusal.TheVariants.{Memory}
use Rattle.mm_value.specs.declared.values.Value.{Value}
use Rattle.mm_query.specs.State.{has_transaction}
use Rattle.mm_query.specs.declared.command.Command.{Command}
use Rattle.mm_query.specs.declared.query.Query.{Query}
use Rattle.mm_lang.specs.ReplyText.{text_of}
use Rattle.mm_lang.specs.Templates.{template_of}
use Rattle.mm_schema.specs.declared.column.Column.{Column}
use Rattle.mm_session.specs.Columns.{AreColumnsOf}
use Rattle.mm_session.specs.Kinds.{query_of}
use Rattle.mm_session.specs.Session.{SessionState, AnswersLine, ExplainsAt, IsPrepared, Releases, RunsAt, TakesAway}
use Rattle.mm_session.specs.Statements.{AreColumnsFound, IsKindOf, LacksPlan, line_at, parameters_at}
use Rattle.mm_session.specs.declared.statement_kind.StatementKind.{StatementKind}
use Rattle.mmdb_c.specs.Cells.{StandFor, StandUpTo}
use Rattle.mmdb_c.specs.Columns.{WritesColumns}
use Rattle.mmdb_c.specs.Copying.{CopiesFront}
use Rattle.mmdb_c.specs.Kinds.{kind_number}
use Rattle.mmdb_c.specs.Replies.{ReadsRows, count_of, rows_of}
use Rattle.mmdb_c.specs.Sessions.{new_session}
use Rattle.mmdb_c.specs.Statuses.{done, has_rows, first_refusal_number, misuse, status_of, status_of_result}
use Rattle.mmdb_c.specs.Words.{IsNoRefusal}
use Rattle.mmdb_c.specs.declared.cell.Cell.{Cell}
use Rattle.mmdb_c.specs.declared.column.ColumnCell.{ColumnCell}

-- A call does this with an open handle, which stays open, or that with a closed one, which stays closed.
abbrev pub OnOpen : (SessionState → SessionState → Type 0) → Type 0 → Option SessionState → Option SessionState → Type 0
OnOpen Does Closed None None = Closed
OnOpen Does Closed None (Some new) = ⊥
OnOpen Does Closed (Some old) None = ⊥
OnOpen Does Closed (Some old) (Some new) = Does old new

-- The session executed the line, and the status is that of the reply.
pub record Executes (line : List ℕ) (status : ℕ) (old new : SessionState) : Type 0 where
  pub answers : AnswersLine line old new
  pub status_is : status ≡ status_of new.reply

-- The result says whether a transaction is open.
abbrev pub InTransaction : Bool → SessionState → SessionState → Type 0
InTransaction open_now old new = (new ≡ old) × (open_now ≡ has_transaction old.state)

-- The result is the number of rows that all calls changed.
abbrev pub TellsChanges : ℕ → SessionState → SessionState → Type 0
TellsChanges changes old new = (new ≡ old) × (changes ≡ old.changes)

-- The number of the new statement, or the number from before if there is none.
abbrev pub number_told : Result ℕ Refusal → ℕ → ℕ
number_told result before = option_map_or (λ number. number) (result_ok result) before

-- The line was prepared and its number written, or the call failed.
pub record Prepares (line : List ℕ) (number_old number_new status : ℕ) (old new : SessionState) : Type 0 where
  pub result : Result ℕ Refusal
  pub prepared : IsPrepared line old new result
  pub number_is : number_new ≡ number_told result number_old
  pub status_is : status ≡ status_of_result result

-- The number of holes of a statement was written; or there is no such statement, and the call is a misuse.
abbrev pub TellsParameters : ℕ → ℕ → ℕ → ℕ → SessionState → SessionState → Type 0
TellsParameters number count_old count_new status old new =
    (new ≡ old) × (((parameters_at number old.lines ≡ Some count_new) × (status ≡ done))
    ⊎ ((parameters_at number old.lines ≡ None) × (count_new ≡ count_old) × (status ≡ misuse)))

-- The number of a statement's kind was written; or there is no such statement, and the call is a misuse.
abbrev pub TellsKind : ℕ → ℕ → ℕ → ℕ → SessionState → SessionState → Type 0
TellsKind number kind_old kind_new status old new =
    (new ≡ old) × (((kind : StatementKind) × IsKindOf (line_at number old.lines) (Some kind) × (kind_new ≡ kind_number kind) × (status ≡ done))
    ⊎ ((line_at number old.lines ≡ None) × (kind_new ≡ kind_old) × (status ≡ misuse)))

-- The statement ran with the values of the cells, and the status is that of the reply.
pub record RunsValues (number : ℕ) (cells : List Cell) (status : ℕ) (old new : SessionState) : Type 0 where
  pub values : List Value
  pub stand : StandFor cells values
  pub runs : RunsAt number values old new
  pub status_is : status ≡ status_of new.reply

-- Running the statement with these cells is a misuse: no statement with the number has as many holes, or a cell is not a value.
abbrev pub IsMisuseOf : ℕ → List Cell → SessionState → Type 0
IsMisuseOf number cells old = (parameters_at number old.lines ≢ Some (length cells)) ⊎ ((values : List Value) → StandFor cells values → ⊥)

-- An allocation for the value of a cell failed: the cells up to that one are values, and there are as many cells as holes.
abbrev pub RefusesMemory : ℕ → List Cell → ℕ → SessionState → Type 0
RefusesMemory number cells status old =
    (status ≡ refusal_number Memory) × (parameters_at number old.lines ≡ Some (length cells)) × ((place : ℕ) × StandUpTo place cells)

-- The statement did not run: the call is a misuse, or an allocation for a value failed.
abbrev pub RefusesCells : ℕ → List Cell → ℕ → SessionState → Type 0
RefusesCells number cells status old = ((status ≡ misuse) × IsMisuseOf number cells old) ⊎ RefusesMemory number cells status old

-- The statement ran with the values of the cells; or it did not run, and nothing changed.
abbrev pub RunsCells : ℕ → List Cell → ℕ → SessionState → SessionState → Type 0
RunsCells number cells status old new = RunsValues number cells status old new ⊎ ((new ≡ old) × RefusesCells number cells status old)

-- The statement's query was explained with the values of the cells, and the status is that of the reply.
pub record ExplainsValues (number : ℕ) (cells : List Cell) (status : ℕ) (old new : SessionState) : Type 0 where
  pub values : List Value
  pub stand : StandFor cells values
  pub explains : ExplainsAt number values old new
  pub status_is : status ≡ status_of new.reply

-- The statement with the number has no query.
abbrev pub LacksPlanAt : ℕ → SessionState → Type 0
LacksPlanAt number old = (line : List ℕ) × (line_at number old.lines ≡ Some line) × LacksPlan line

-- The statement with the number has a query.
pub record HasPlanAt (number : ℕ) (old : SessionState) : Type 0 where
  pub line : List ℕ
  pub is : line_at number old.lines ≡ Some line
  pub command : Command
  pub read : template_of line ≡ Ok command
  pub query : Query
  pub asks : query_of command ≡ Some query

-- The statement's query was not explained: the call is a misuse, or an allocation for a value failed.
abbrev pub RefusesPlan : ℕ → List Cell → ℕ → SessionState → Type 0
RefusesPlan number cells status old =
    ((status ≡ misuse) × (IsMisuseOf number cells old ⊎ LacksPlanAt number old))
    ⊎ (RefusesMemory number cells status old × HasPlanAt number old)

-- The statement's query was explained with the values of the cells; or it was not, and nothing changed.
abbrev pub ExplainsCells : ℕ → List Cell → ℕ → SessionState → SessionState → Type 0
ExplainsCells number cells status old new =
    ExplainsValues number cells status old new ⊎ ((new ≡ old) × RefusesPlan number cells status old)

-- The latest savepoint with the name was released, or the release was refused.
pub record ReleasesName (name : List ℕ) (status : ℕ) (old new : SessionState) : Type 0 where
  pub result : Result (Unit {0}) Refusal
  pub releases : Releases name old new result
  pub status_is : status ≡ status_of_result result

-- The statement was deleted; or there is none with the number, and the call is a misuse.
abbrev pub TakesStatement : ℕ → ℕ → SessionState → SessionState → Type 0
TakesStatement number status old new =
    ((status ≡ done) × TakesAway number old new) ⊎ ((status ≡ misuse) × (new ≡ old) × (line_at number old.lines ≡ None))

-- A closed handle was opened with a new session; or the handle was open or an allocation failed, and nothing changed.
abbrev pub Opens : ℕ → Option SessionState → Option SessionState → Type 0
Opens status old new =
    ((old ≡ None) × (new ≡ Some new_session) × (status ≡ done))
    ⊎ ((new ≡ old) × (((old ≢ None) × (status ≡ misuse)) ⊎ ((old ≡ None) × (status ≡ refusal_number Memory))))

-- The result is the number of rows that the reply has or counts.
abbrev pub Counts : ℕ → SessionState → SessionState → Type 0
Counts count old new = (new ≡ old) × (count ≡ count_of old.reply)

-- Rows of the reply were copied into cells.
abbrev pub Reads : ℕ → List Cell → List Cell → ℕ → SessionState → SessionState → Type 0
Reads first out_old out_new rows old new = (new ≡ old) × ReadsRows (rows_of old.reply) first out_old out_new rows

-- As many bytes of the reply's text as fit were copied, and its length was written; or an allocation failed, and nothing was written.
abbrev pub TellsText : List ℕ → List ℕ → ℕ → ℕ → ℕ → SessionState → SessionState → Type 0
TellsText old_out new_out length_old length_new status old new =
    (new ≡ old) × (((status ≡ done) × (length_new ≡ length (text_of old.reply)) × CopiesFront (text_of old.reply) old_out new_out)
    ⊎ ((status ≡ refusal_number Memory) × (length_new ≡ length_old) × (new_out ≡ old_out)))

-- The columns of the rows that a line returns were written; or the line cannot be read or an allocation failed, and nothing was written.
abbrev pub TellsColumns : List ℕ → List ColumnCell → List ColumnCell → ℕ → ℕ → ℕ → SessionState → SessionState → Type 0
TellsColumns line out_old out_new count_old count_new status old new =
    (new ≡ old) × (((columns : List Column) × AreColumnsOf line old.state columns × WritesColumns columns out_old out_new count_new × (status ≡ done))
    ⊎ ((refusal : Refusal) × ((template_of line ≡ Err refusal) ⊎ (refusal ≡ Memory)) × (status ≡ refusal_number refusal)
    × (out_new ≡ out_old) × (count_new ≡ count_old)))

-- The status if a statement's columns were not written: misuse if there is no such statement, and a failed allocation otherwise.
abbrev pub status_untold : Option (List ℕ) → ℕ
status_untold None = misuse
status_untold (Some line) = refusal_number Memory

-- The columns of the rows that a statement returns were written, or the call failed and nothing was written.
abbrev pub TellsStatementColumns : ℕ → List ColumnCell → List ColumnCell → ℕ → ℕ → ℕ → SessionState → SessionState → Type 0
TellsStatementColumns number out_old out_new count_old count_new status old new =
    (new ≡ old) × (((columns : List Column) × AreColumnsFound (line_at number old.lines) old.state columns
    × WritesColumns columns out_old out_new count_new × (status ≡ done))
    ⊎ ((status ≡ status_untold (line_at number old.lines)) × (out_new ≡ out_old) × (count_new ≡ count_old)))

-- The result is a place within the line: 0 if no refusal has the number.
pub record FindsPlace (line : List ℕ) (number place : ℕ) (old new : SessionState) : Type 0 where
  pub same : new ≡ old
  pub within : place ≤ length line
  pub none : IsNoRefusal number → place ≡ 0

-- The statement ran, and then rows of its reply were copied from the first one on; if the reply has no rows, no cell changed.
pub record Queries (number : ℕ) (cells : List Cell) (out_old out_new : List Cell) (rows status : ℕ) (old new : SessionState) : Type 0 where
  pub runs : RunsCells number cells status old new
  pub read : (status ≡ has_rows) → ReadsRows (rows_of new.reply) 0 out_old out_new rows
  pub none : (status ≢ has_rows) → (rows ≡ 0) × (out_new ≡ out_old)

-- The statement ran with each row of cells in turn, until a run failed or no row was left; the count is that of the runs that succeeded,
-- and the status is that of the failed run, or `done`.
abbrev pub RunsMany : ℕ → ℕ → ℕ → List Cell → ℕ → SessionState → SessionState → Type 0
RunsMany number width zero cells status old new =
    ((cells ≡ []) × (status ≡ done) × (new ≡ old))
    ⊎ ((cells ≢ []) × (first_refusal_number ≤ status) × RunsCells number (take width cells) status old new)
RunsMany number width (suc count) cells status old new =
    (one : ℕ) × (between : SessionState) × (cells ≢ []) × (one < first_refusal_number) × RunsCells number (take width cells) one old between
    × RunsMany number width count (drop width cells) status between new

-- The statement ran with each row of cells in turn; a width of 0 is a misuse.
abbrev pub RunsRows : ℕ → ℕ → ℕ → List Cell → ℕ → SessionState → SessionState → Type 0
RunsRows number width count cells status old new =
    ((0 < width) × RunsMany number width count cells status old new) ⊎ ((width ≡ 0) × (new ≡ old) × (count ≡ 0) × (status ≡ misuse))
