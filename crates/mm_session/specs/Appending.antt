-- Appending rows: the INSERT of the rows of columns.
use Rattle.std.specs.Prelude.{◌≡◌, ◌⊎◌, if◌then◌else◌, ℕ, List, Result, Ok, Err}
use Rattle.mm_value.specs.declared.refusal.Refusal.{Refusal}
use Rattle.mm_value.specs.declared.refusal.Refusal.TheVariants.{Memory, Syntax}
use Rattle.mm_value.specs.declared.values.Value.{Value}
use Rattle.mm_schema.specs.Name.{is_name}
use Rattle.mm_query.specs.Machine.{Outcome, refused_outcome}
use Rattle.mm_query.specs.State.{State}
use Rattle.mm_query.specs.declared.command.Command.{Command}
use Rattle.mm_query.specs.declared.command.Command.TheVariants.{Change}
use Rattle.mm_query.specs.declared.command.Mutation.TheVariants.{Insert}
use Rattle.mm_lang.specs.Answering.{outcome_of}
use Rattle.mm_session.specs.ColumnArrays.{AreColumns, rows_in}
use Rattle.mm_session.specs.Session.{SessionState, changes_after, outcome_in}
use Rattle.mm_session.specs.declared.column_array.ColumnArray.{ColumnArray}
use Rattle.mm_session.specs.declared.column_array.NotColumns.{NotColumns}

-- The INSERT of rows into a table, or the refusal of the rows.
abbrev pub insert_with : List ℕ → Result (List (List Value)) Refusal → Result Command Refusal
insert_with table (Ok rows) = Ok (Change (Insert table rows))
insert_with table (Err refusal) = Err refusal

-- The INSERT of the rows of columns into a table, or the refusal of the table's name or of the rows.
abbrev pub insert_of : List ℕ → List ColumnArray → Result Command Refusal
insert_of table columns = if is_name table then insert_with table (rows_in columns) else Err Syntax

-- An outcome of appending the rows: that of their INSERT, or a failed allocation.
abbrev pub AppendsRows : List ℕ → List ColumnArray → State → Outcome → Type 0
AppendsRows table columns before outcome =
    (outcome ≡ outcome_of (insert_of table columns) before) ⊎ (outcome ≡ refused_outcome Memory before)

-- The session executed the INSERT of the rows; the statements are unchanged.
pub record AppendsAt (table : List ℕ) (columns : List ColumnArray) (old new : SessionState) : Type 0 where
  pub appends : AppendsRows table columns old.state (outcome_in new)
  pub lines : new.lines ≡ old.lines
  pub changes : new.changes ≡ changes_after new.reply old.changes

-- The session executed the INSERT of the rows of the columns; or the arrays are not columns, and nothing changed.
abbrev pub Appends : List ℕ → List ColumnArray → SessionState → SessionState → Result (Unit {0}) NotColumns → Type 0
Appends table columns old new (Ok done) = AreColumns columns × AppendsAt table columns old new
Appends table columns old new (Err fault) = (new ≡ old) × (AreColumns columns → ⊥)
