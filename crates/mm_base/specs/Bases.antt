-- The rows of all tables.
use Rattle.std.specs.Prelude.{ℕ, ◌<◌, ◌≤◌, ◌==◌, List, [], ◌∷◌, All, filter, length, map, not, slice_index, slice_index_or}
use Rattle.mm_partition.specs.Places.{AreReferencesSmall, AreRowsStorable, slot_at}
use Rattle.mm_indexed.specs.Kept.{IsKept, StoredRows}
use Rattle.mm_value.specs.declared.values.Value.{Value}
use Rattle.mm_schema.specs.Refused.{Condition}
use Rattle.mm_schema.specs.Rows.{most_rows, table_rows_conditions}
use Rattle.mm_row_order.specs.Refs.{Slots}
use Rattle.mm_indexed.specs.Twins.{AreApart}
use Rattle.mm_tables.specs.Tables.{Stored, no_slots, state_of, slots_in, keys_of, key_in, at_mark}
use Rattle.mm_tables.specs.declared.edit.Edit.{Edit}
use Rattle.mm_base.specs.EditPairs.{edit_pairs, rows_with}
use Rattle.mm_base.specs.Joined.{HaveEntriesFor, IsJoined}
use Rattle.mm_base.specs.Orphans.{has_orphans, makes_orphans}
use Rattle.mm_link.specs.declared.link.Link.{Link}
use Rattle.mm_schema.specs.References.{moved_up}
use Rattle.mm_schema.specs.declared.reference.Reference.{Reference}
use Rattle.mm_base.specs.RowLists.{rows_in, AreSmall}

-- The slots of a table are lawful: no two rows in use have one key, there are not too many, and their slots are below 2^32 - 1.
pub record IsLawful (key : ℕ) (now : Slots) : Type 0 where
  pub apart : AreApart key now
  pub few : length (rows_in key now) ≤ most_rows
  pub small : AreSmall now

-- The slots of each table are lawful, with these keys.
abbrev pub AreLawful : List ℕ → List Slots → Type 0
AreLawful keys state = (t : ℕ) → t < length state → IsLawful (slice_index keys t) (slice_index_or state t no_slots)

-- The rows of a table have the types of its columns and values that a program can have, its indexes contain exactly their references,
-- and their slots are below 2^32 - 1.
pub record IsWhole (rows : StoredRows) : Type 0 where
  pub kept : IsKept rows.places.types rows.key (slot_at rows.places) rows.refs rows.indexes
  pub storable : AreRowsStorable rows.places
  pub small : AreReferencesSmall rows.places

-- The rows in use of each table, in the order of its key.
abbrev pub rows_of_state : List ℕ → List Slots → List (List (List Value))
rows_of_state [] state = []
rows_of_state (key ∷ keys) [] = []
rows_of_state (key ∷ keys) (now ∷ state) = rows_in key now ∷ rows_of_state keys state

-- The rows in use of each table now.
abbrev pub rows_now : Stored → List (List (List Value))
rows_now s = rows_of_state (keys_of s.tables) (state_of s.tables)

-- The rows in use of each table when the log had this length.
abbrev pub rows_at_mark : Stored → ℕ → List (List (List Value))
rows_at_mark s mark = rows_of_state (keys_of s.tables) (at_mark s mark)

-- The rows of a table after edits.
abbrev pub rows_made : Stored → ℕ → List Edit → List (List Value)
rows_made s table edits = rows_with (key_in s.tables table) (slots_in s.tables table) edits

-- The model of base tables for callers: tables and log, and the foreign keys with their ties.
pub record Base : Type 0 where
  pub stored : Stored
  pub links : List Link

abbrev pub references_of : List Link → List Reference
references_of links = map (λ (link : Link). link.reference) links

-- Each table is lawful, and the ties of each foreign key follow the rows.
pub record IsSound (s : Stored) (links : List Link) : Type 0 where
  pub lawful : AreLawful (keys_of s.tables) (state_of s.tables)
  pub joined : All (IsJoined s.tables s.log) links

-- The conditions that refuse the edits of a table, in the one order.
abbrev pub edit_conditions : Base → ℕ → List Edit → List Condition
edit_conditions s table edits =
    table_rows_conditions (key_in s.stored.tables table) (rows_made s.stored table edits)
    (has_orphans s.stored.tables (references_of s.links) table (rows_made s.stored table edits))
    (makes_orphans s.stored.tables (references_of s.links) table (edit_pairs (slots_in s.stored.tables table) edits))

-- Each link has entries or counts for at least as many new rows of each table as before.
abbrev pub KeepsEntries : Base → Base → Type 0
KeepsEntries old new = (t n : ℕ) → HaveEntriesFor n t old.stored.tables old.links → HaveEntriesFor n t new.stored.tables new.links

-- The references after the table at a place is dropped, without its own.
abbrev pub references_without : ℕ → List Reference → List Reference
references_without gone references = map (moved_up gone) (filter (λ reference. not (reference.from == gone)) references)
