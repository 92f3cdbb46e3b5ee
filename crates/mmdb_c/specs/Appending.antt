-- Appending the rows of columns.
use Rattle.std.specs.Prelude.{◌≡◌, ℕ, List, Option, Result, Ok, Err}
use Rattle.mm_query.specs.declared.reply.Reply.{Reply}
use Rattle.mm_session.specs.Appending.{Appends}
use Rattle.mm_session.specs.Session.{SessionState}
use Rattle.mm_session.specs.declared.column_array.ColumnArray.{ColumnArray}
use Rattle.mm_session.specs.declared.column_array.NotColumns.{NotColumns}
use Rattle.mmdb_c.specs.Statuses.{misuse, status_of}

-- The status of appending rows: that of the reply, or misuse if the arrays are not columns.
abbrev pub status_of_append : Result (Unit {0}) NotColumns → Option Reply → ℕ
status_of_append (Ok done) reply = status_of reply
status_of_append (Err fault) reply = misuse

-- The INSERT of the rows of the columns was executed; or the arrays are not columns, and nothing changed.
pub record AppendsColumns (table : List ℕ) (columns : List ColumnArray) (status : ℕ) (old new : SessionState) : Type 0 where
  pub result : Result (Unit {0}) NotColumns
  pub appends : Appends table columns old new result
  pub status_is : status ≡ status_of_append result new.reply
