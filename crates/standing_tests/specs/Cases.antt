-- Tables with lists of standing queries over them, and marks to which both can be rolled back.
use Rattle.std.specs.Prelude.{◌≡◌, ◌==◌, ℕ, ◌≤◌, Bool, true, false, if◌then◌else◌, List, [], length, replicate, slice_get, slice_index_or}
use Rattle.std.specs.List.{All, list_all}
use Rattle.std.specs.Option.{option_map_or}
use Rattle.mm_delta.specs.Edited.{before_at}
use Rattle.mm_partition.specs.Places.{Hidden, slot_at}
use Rattle.mm_partition.specs.Types.{HasTypes}
use Rattle.mm_query.specs.declared.atom.Atom.{Atom}
use Rattle.mm_query.specs.declared.atom.Operand.{Operand}
use Rattle.mm_query.specs.declared.atom.Operand.TheVariants.{Literal, Column, Shifted}
use Rattle.mm_query.specs.declared.bound_query.BoundQuery.{BoundQuery}
use Rattle.mm_query.specs.declared.bound_query.FieldPlace.{FieldPlace}
use Rattle.mm_indexed.specs.Kept.{StoredRows}
use Rattle.mm_tables.specs.declared.edit.Edit.{Edit}
use Rattle.mm_standing.specs.Queries.{RowsByPlace, StandingQuery}
use Rattle.mm_standing.specs.State.{AreServed, FitAt, FitNow, Lists}
use Rattle.mm_store.specs.Edits.{AreFit, rows_after}
use Rattle.mm_store.specs.Marks as marks
use Rattle.mm_store.specs.Marks.{rows_at_mark}
use Rattle.mm_store.specs.Tables.{IsAt, Tables, rows_at}
use Rattle.mm_value.specs.declared.col_type.ColType.TheVariants.{Int}
use Rattle.mm_value.specs.declared.row_ref.RowRef.{RowRef}
use Rattle.mm_value.specs.declared.values.Value.{Value}
use Rattle.store_tests.specs.SampleStore.{ArePlain, plain_types}

-- ---- queries

-- The operand adds no number to a value.
abbrev pub adds_none : Operand FieldPlace → Bool
adds_none (Literal value) = true
adds_none (Column field) = true
adds_none (Shifted field by) = false

-- No atom of the query adds a number to a value.
abbrev pub is_unshifted : BoundQuery → Bool
is_unshifted query = list_all (λ (atom : Atom FieldPlace). adds_none atom.right) query.atoms

-- The standing query has a place for each table of its FROM, no atom of it adds a number, and all its fields are of integers.
pub record IsWhole (standing : StandingQuery) : Type 0 where
  pub whole : length standing.tables ≡ length standing.query.from
  pub unshifted : is_unshifted standing.query ≡ true
  pub types : standing.types ≡ replicate (length standing.query.fields) Int

-- ---- rows

-- The rows of the table at each place after the edits of the table at one place.
abbrev pub rows_edited : Tables → ℕ → List Edit → RowsByPlace
rows_edited store table edits place =
    if table == place then option_map_or (λ (stored : StoredRows). rows_after stored edits) (slice_get store.tables place) [] else rows_at store.tables place

-- Each row of each table consists of two integers.
abbrev pub HaveNumbers : RowsByPlace → Type 0
HaveNumbers rows = (place : ℕ) → All (HasTypes plain_types) (rows place)

-- The rows of the table at each place when the log of the tables had this length.
abbrev pub rows_then : ℕ → Tables → RowsByPlace
rows_then commands store place = slice_index_or (rows_at_mark commands store) place []

-- The edits of a table fit it.
abbrev pub AreFitAt : Tables → ℕ → List Edit → Type 0
AreFitAt store table edits = (stored : StoredRows) → IsAt store table stored → AreFit stored edits

-- A slot of a table has a hidden row of two integers.
abbrev pub IsHiddenNumber : Tables → ℕ → RowRef → Type 0
IsHiddenNumber store table at =
    (stored : StoredRows) → IsAt store table stored → (row : List Value) × (slot_at stored.places at ≡ Hidden row) × HasTypes plain_types row

-- ---- cases

-- There are two tables of two columns, their rows are of integers, and the lists have the rows of their queries.
pub record IsCase (store : Tables) (lists : Lists) : Type 0 where
  pub two : length store.tables ≡ 2
  pub plain : ArePlain store
  pub typed : HaveNumbers (before_at store)
  pub served : AreServed store lists.queries
  pub whole : All IsWhole lists.queries
  pub fits : FitNow (before_at store) lists
  pub ready : lists.prepared ≡ []

-- Both logs can be undone to these lengths. At that point the lists had the rows of their queries, and all rows were of integers.
pub record IsMark (store : Tables) (lists : Lists) (commands changes : ℕ) : Type 0 where
  pub commands_there : marks.IsMark store commands
  pub changes_there : changes ≤ length lists.log
  pub typed : HaveNumbers (rows_then commands store)
  pub fits : FitAt changes (rows_then commands store) lists

-- A case that can be rolled back to its start and to a mark.
pub record IsMarked (store : Tables) (lists : Lists) (commands changes : ℕ) : Type 0 where
  pub case : IsCase store lists
  pub start : IsMark store lists 0 0
  pub mark : IsMark store lists commands changes
