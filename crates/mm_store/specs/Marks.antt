-- Savepoints: the rows of all tables when the log had a given length.
use Rattle.std.specs.Prelude.{◌≡◌, ℕ, ◌≤◌, List, length}
use Rattle.mm_base.specs.Bases as base
use Rattle.mm_tables.specs.Tables.{at_mark, keys_of}
use Rattle.mm_value.specs.declared.values.Value.{Value}
use Rattle.mm_store.specs.Tables.{Tables}

-- The number of records of the log: a savepoint at which the rows are the current ones.
abbrev pub mark_of : Tables → ℕ
mark_of store = length store.stored.log

-- The rows of all tables when the log had this length.
abbrev pub rows_at_mark : ℕ → Tables → List (List (List Value))
rows_at_mark mark store = base.rows_at_mark store.stored mark

-- The log can be undone to this length: it is at least as long, and then the rows of each table were lawful.
pub record IsMark (store : Tables) (mark : ℕ) : Type 0 where
  pub within : mark ≤ length store.stored.log
  pub lawful : base.AreLawful (keys_of store.stored.tables) (at_mark store.stored mark)

-- If the log of the old store can be undone to the mark, so can the log of the new store, and this leads to the same rows.
pub record KeepsMarks (old new : Tables) (mark : ℕ) : Type 0 where
  pub kept : IsMark old mark → IsMark new mark
  pub rows : rows_at_mark mark new ≡ rows_at_mark mark old
