-- Staged rows: they are in hidden slots of their table, where no query sees them.
use Rattle.std.specs.Prelude.{◌≡◌, ℕ, ◌≤◌}
use Rattle.mm_base.specs.Joined.{HaveEntriesFor}
use Rattle.mm_indexed.specs.Index.{EachTurns, SameIndex}
use Rattle.mm_indexed.specs.Kept.{StoredRows}
use Rattle.mm_indexed.specs.RowLists.{rows_of}
use Rattle.mm_partition.specs.Places.{Free, Hidden, IsTaken, slot_at}
use Rattle.mm_tables.specs.Edits.{put}
use Rattle.mm_tables.specs.Tables.{HasCapacity, HoldsAt}
use Rattle.mm_value.specs.declared.row_ref.RowRef.{RowRef}
use Rattle.mm_value.specs.declared.values.Value.{Value}
use Rattle.std.specs.Prelude.{List}
use Rattle.mm_store.specs.Marks.{KeepsMarks, mark_of}
use Rattle.mm_store.specs.Tables.{IsAt, Tables, Turns}

-- There is capacity to stage `rows` rows of a table.
pub record CanStage (rows table : ℕ) (store : Tables) : Type 0 where
  pub capacity : HoldsAt (HasCapacity rows 0) store.stored.tables table
  pub log_room : rows ≤ store.stored.log_room
  pub entries : HaveEntriesFor rows table store.stored.tables store.ties

-- Each slot that has a row, in use or hidden, is as before, and so are the rows in use, the columns, the key and the indexes.
pub record KeepsSlots (old new : StoredRows) : Type 0 where
  pub taken : (at : RowRef) → IsTaken (slot_at old.places at) → slot_at new.places at ≡ slot_at old.places at
  pub rows_are : rows_of new ≡ rows_of old
  pub types : new.places.types ≡ old.places.types
  pub key : new.key ≡ old.key
  pub indexes : EachTurns SameIndex old.indexes new.indexes

-- A slot that was free has this row, hidden; every other slot is unchanged.
pub record IsStaged (at : RowRef) (row : List Value) (old new : StoredRows) : Type 0 where
  pub fresh : slot_at old.places at ≡ Free
  pub slots : slot_at new.places ≡ put at (Hidden row) (slot_at old.places)

-- At most, rows of one table were staged. Otherwise all tables and the earlier log are unchanged.
pub record HasStaged (table : ℕ) (old new : Tables) : Type 0 where
  pub kept : (stored : StoredRows) → IsAt old table stored → (now : StoredRows) × Turns old table now new × KeepsSlots stored now
  pub links : new.links ≡ old.links
  pub longer : mark_of old ≤ mark_of new
  pub marks : (mark : ℕ) → mark ≤ mark_of old → KeepsMarks old new mark
