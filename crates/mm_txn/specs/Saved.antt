-- The saved rows of an open transaction, and that they can be restored.
use Rattle.std.specs.Prelude.{◌≡◌, ℕ, Bool, true, false, cond, All, List, [], Option, Some, None, length, map, reverse}
use Rattle.mm_schema.specs.Instance.{Instance}
use Rattle.mm_standing.specs.State.{FitAt, Lists}
use Rattle.mm_store.specs.Marks.{IsMark, KeepsMarks, mark_of, rows_at_mark}
use Rattle.mm_store.specs.Tables.{Tables}
use Rattle.mm_query.specs.State.{Saved, Savepoint, State}
use Rattle.mm_laws.specs.Typing.{IsTyped}
use Rattle.mm_txn.specs.Contents.{Holdings}
use Rattle.mm_plan.specs.Kept.{instance_of}
use Rattle.mm_txn.specs.Marks.{Ascend}
use Rattle.mm_txn.specs.Listed.{queries_of, rows_by_place}
use Rattle.mm_txn.specs.declared.savepoints.Mark.{Mark}

-- The rows at a mark: those when the log of the store had the mark's length.
abbrev pub savepoint_at : Tables → Mark → Savepoint
savepoint_at store mark = record { name = mark.name; rows = rows_at_mark mark.commands store }

-- The states that a transaction can be rolled back to: the rows before all edits of the log, and those at each mark, latest first.
abbrev pub saved_of : Tables → List Mark → Saved
saved_of store marks = record { at_begin = rows_at_mark 0 store; savepoints = reverse (map (savepoint_at store) marks) }

-- Rows are saved exactly while a transaction is open.
abbrev pub saved_rows : Bool → Tables → List Mark → Option Saved
saved_rows is_open store marks = cond is_open (Some (saved_of store marks)) None

-- The model of a database: the catalog, the rows of its tables, the queries of the lists, and the saved rows.
abbrev pub kept_state : Holdings → Bool → List Mark → State
kept_state held is_open marks = record {
  schema = held.schema;
  rows = instance_of held.store.tables;
  queries = queries_of held.lists.queries;
  saved = saved_rows is_open held.store marks;
}

-- Both logs are empty, so nothing can be undone.
pub record IsSettled (store : Tables) (lists : Lists) : Type 0 where
  pub edits : store.stored.log ≡ []
  pub log : lists.log ≡ []

-- The log is unchanged, and each mark leads to the same rows as before.
pub record KeepsLog (old new : Tables) : Type 0 where
  pub log : new.stored.log ≡ old.stored.log
  pub marks : (mark : ℕ) → KeepsMarks old new mark

-- Once the log of the lists is undone to a length, each list has exactly the rows of its query over the saved rows.
pub record AreSaved (length : ℕ) (saved : Instance) (lists : Lists) : Type 0 where
  pub fits : FitAt length (rows_by_place saved) lists

-- The logs of the store and of the lists can be undone to these lengths, and the lists then fit the rows.
pub record GoesBack (store : Tables) (lists : Lists) (commands changes : ℕ) : Type 0 where
  pub mark : IsMark store commands
  pub saved : AreSaved changes (rows_at_mark commands store) lists

-- The logs can be undone to the lengths of a mark, and the lists then fit the rows.
abbrev pub IsSaved : Tables → Lists → Mark → Type 0
IsSaved store lists mark = GoesBack store lists mark.commands mark.changes

-- Store and lists can be rolled back to the beginning of the transaction and to each mark, and the marks lie within the logs.
pub record CanGoBack (store : Tables) (lists : Lists) (marks : List Mark) : Type 0 where
  pub saved : GoesBack store lists 0 0
  pub each : All (IsSaved store lists) marks
  pub ascend : Ascend 0 0 marks (mark_of store) (length lists.log)

-- Rows have the types of their columns, and standing queries add numbers only to integers. A transaction can be rolled back to its
-- beginning and to each mark. Outside a transaction the logs are empty.
pub record IsConsistent (held : Holdings) (is_open : Bool) (marks : List Mark) : Type 0 where
  pub typed : IsTyped (kept_state held is_open marks)
  pub back : is_open ≡ true → CanGoBack held.store held.lists marks
  pub settled : is_open ≡ false → IsSettled held.store held.lists × (marks ≡ [])
