-- Tables with one log.
use Rattle.std.specs.Prelude.{◌≡◌, ◌≢◌, ℕ, ◌+◌, ◌*◌, ◌^◌, ◌<◌, ◌≤◌, List, [], ◌∷◌, ◌++◌, All, cond, eqb, drop, length, map, remove}
use Rattle.std.specs.Prelude.{slice_set, slice_index, slice_index_or}
use Rattle.std.specs.List.{sum_by}
use Rattle.mm_value.specs.declared.col_type.ColType.{ColType}
use Rattle.mm_schema.specs.declared.index.IndexKind.{IndexKind}
use Rattle.mm_schema.specs.declared.index.IndexKind.TheVariants as kinds
use Rattle.mm_partition.specs.Places.{Free, extent_of, slot_at}
use Rattle.mm_indexed.specs.Index.{AddsIndex, column_of, kind_of, spare_of}
use Rattle.mm_indexed.specs.Kept.{StoredRows}
use Rattle.mm_row_order.specs.Refs.{Slots}
use Rattle.mm_indexed.specs.declared.indexes.index.Index.{Index}
use Rattle.mm_tables.specs.Edits.{step_back, Stands, NoneHidden, key_places, places, key_places_back, places_back}
use Rattle.mm_tables.specs.Log.{before, StandsBack}
use Rattle.mm_tables.specs.declared.edit.Edit.{Edit}
use Rattle.mm_tables.specs.declared.log_record.LogRecord.{LogRecord}
use Rattle.mm_tables.specs.declared.logged_table.LoggedTable.{LoggedTable}

-- the slots of a table that does not exist
abbrev pub no_slots : Slots
no_slots at = Free

-- the slots of a table
abbrev pub slots_of : LoggedTable → Slots
slots_of t = slot_at t.rows.places

-- The parts of a table that no edit changes: the key, the types of the columns, and the column and the kind of each further index.
pub record Shape : Type 0 where
  pub key : ℕ
  pub types : List ColType
  pub indexes : List (ℕ × IndexKind)

abbrev pub shape_of : LoggedTable → Shape
shape_of t = record { key = t.rows.key; types = t.rows.places.types; indexes = map (λ (x : Index). (column_of x, kind_of x)) t.rows.indexes }

-- the slots of each table
abbrev pub state_of : List LoggedTable → List Slots
state_of tables = map slots_of tables

abbrev pub slots_in : List LoggedTable → ℕ → Slots
slots_in tables t = slice_index_or (state_of tables) t no_slots

-- the number of slots of each table used so far
abbrev pub extent_of_table : LoggedTable → ℕ
extent_of_table t = extent_of t.rows.places

abbrev pub extents_of : List LoggedTable → List ℕ
extents_of tables = map extent_of_table tables

abbrev pub extent_in : List LoggedTable → ℕ → ℕ
extent_in tables t = slice_index (extents_of tables) t

-- the key of each table
abbrev pub keys_of : List LoggedTable → List ℕ
keys_of tables = map (λ (x : Shape). x.key) (map shape_of tables)

abbrev pub key_in : List LoggedTable → ℕ → ℕ
key_in tables t = slice_index (keys_of tables) t

-- the record of an edit of a table
abbrev pub logged : ℕ → Edit → LogRecord
logged t e = record { table = t; edit = e }

-- the state before a change
abbrev pub back : LogRecord → List Slots → List Slots
back r s = slice_set s r.table (step_back r.edit (slice_index_or s r.table no_slots))

-- a change left the state as it is, in tables of these keys
pub record Holds (keys : List ℕ) (s : List Slots) (r : LogRecord) : Type 0 where
  pub within : r.table < length s
  pub stands : Stands (slice_index keys r.table) (slice_index_or s r.table no_slots) r.edit

-- The list has one more table at its end, without rows, with these types, this key and no further index.
pub record AddsTable (key : ℕ) (types : List ColType) (old new : List LoggedTable) : Type 0 where
  pub table : LoggedTable
  pub added : new ≡ old ++ table ∷ []
  pub empty : slots_of table ≡ no_slots
  pub extent : extent_of_table table ≡ 0
  pub shape : shape_of table ≡ record { key = key; types = types; indexes = [] }

-- a number for the edit of a change, in the table of the change, and 0 in the other tables
abbrev pub places_in : (Edit → ℕ) → ℕ → LogRecord → ℕ
places_in count t r = cond (eqb t r.table) (count r.edit) 0

-- there is capacity for k more entries in the index on the key, and m in each further index
pub record HasSpare (k m : ℕ) (rows : StoredRows) : Type 0 where
  pub key : k ≤ rows.spare
  pub indexes : All (λ x. m ≤ spare_of x) rows.indexes

-- A table has capacity for n new rows, for k entries in the index on the key and m in each further one, and for the undo of all edits
-- before.
pub record HasRoom (n k m : ℕ) (t : LoggedTable) : Type 0 where
  pub rows : n ≤ t.rows.places.room
  pub spare : HasSpare (t.owed.key + k) (t.owed.indexes + m) t.rows

-- A table has capacity for n new rows and m edits, and for the undo of those and of all edits before.
abbrev pub HasCapacity : ℕ → ℕ → LoggedTable → Type 0
HasCapacity n m t = HasRoom n (2 * m) (2 * m) t

-- A table has capacity for these edits, and for the undo of those and of all edits before.
abbrev pub HasRoomFor : List Edit → LoggedTable → Type 0
HasRoomFor edits t = HasRoom 0 (sum_by key_places edits) (sum_by places edits) t

-- A table has one more index at the end of its list, on this column and of this kind, and is otherwise as before.
pub record IndexAdded (column : ℕ) (kind : IndexKind) (old new : LoggedTable) : Type 0 where
  pub added : AddsIndex column kind old.rows.indexes new.rows.indexes
  pub rest : new ≡ record old { rows = record old.rows { indexes = new.rows.indexes } }

-- A table without the index at a place.
abbrev pub without_index : ℕ → LoggedTable → LoggedTable
without_index index t = record t { rows = record t.rows { indexes = remove t.rows.indexes index } }

-- the tree on the key has at most n spare nodes, and so does each TREE index
pub record HasFewSpares (n : ℕ) (t : LoggedTable) : Type 0 where
  pub key : t.rows.spare ≤ n
  pub each : All (λ x. kind_of x ≡ kinds.Tree → spare_of x ≤ n) t.rows.indexes

-- a property holds for a table of the list
abbrev pub HoldsAt : (LoggedTable → Type 0) → List LoggedTable → ℕ → Type 0
HoldsAt P tables t = (d : LoggedTable) → P (slice_index_or tables t d)

-- every other table is as before
abbrev pub KeepsOthers : ℕ → List LoggedTable → List LoggedTable → Type 0
KeepsOthers table old new = (t : ℕ) (d : LoggedTable) → t ≢ table → slice_index_or new t d ≡ slice_index_or old t d

-- a table has counted the entries that the undo of the log inserts, and has capacity for them
pub record HasCounted (log : List LogRecord) (t : ℕ) (table : LoggedTable) : Type 0 where
  pub key : table.owed.key ≡ sum_by (places_in key_places_back t) log
  pub indexes : table.owed.indexes ≡ sum_by (places_in places_back t) log
  pub spare : HasSpare table.owed.key table.owed.indexes table.rows

-- The log can be undone, which leads to slots without hidden rows, and there is capacity for it.
pub record IsLogged (tables : List LoggedTable) (log : List LogRecord) : Type 0 where
  pub few : length tables ≤ 2 ^ 16
  pub stands : StandsBack back (Holds (keys_of tables)) log (state_of tables)
  pub clean : (t : ℕ) → NoneHidden (slice_index_or (before back log (state_of tables)) t no_slots)
  pub counted : (t : ℕ) → t < length tables → HoldsAt (HasCounted log t) tables t

-- The model: the tables, the log, and the capacity of the log for more records.
pub record Stored : Type 0 where
  pub tables : List LoggedTable
  pub log : List LogRecord
  pub log_room : ℕ

-- the state when the log had this length
abbrev pub at_mark : Stored → ℕ → List Slots
at_mark s mark = before back (drop mark s.log) (state_of s.tables)

-- the newest change is undone
pub record IsUndone (change : LogRecord) (old new : Stored) : Type 0 where
  pub log : old.log ≡ new.log ++ change ∷ []
  pub state : state_of new.tables ≡ back change (state_of old.tables)
