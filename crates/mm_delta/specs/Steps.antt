-- The steps of a walk.
use Rattle.std.specs.Prelude.{◌≡◌, ℕ, ◌+◌, ◌<◌, ◌++◌, Bool, false, not, if◌then◌else◌, List, [], Option, Some, None, filter, get_or, length, nat_lt}
use Rattle.std.specs.Prelude.{IsPermutation}
use Rattle.std.specs.List.{AllByRecursion, list_any, sum_by}
use Rattle.std.specs.Option.{option_map}
use Rattle.mm_tables.specs.Edits.{same_ref}
use Rattle.mm_partition.specs.Places.{slot_at}
use Rattle.mm_store.specs.Edits.{AreReady, new_slot}
use Rattle.mm_row_order.specs.Refs.{Slots, row_at}
use Rattle.mm_indexed.specs.Kept.{StoredRows}
use Rattle.mm_tables.specs.declared.edit.Edit.{Edit}
use Rattle.mm_tables.specs.declared.edit.Edit.TheVariants.{Delete, Insert, Move, Stage, Update}
use Rattle.mm_store.specs.Looked.{IsIndexOn}
use Rattle.mm_store.specs.Tables.{IsAt, Tables}
use Rattle.mm_value.specs.declared.row_ref.RowRef.{RowRef}
use Rattle.mm_value.specs.declared.values.Value.{Value}
use Rattle.mm_query.specs.Queries.{Partial}
use Rattle.mm_query.specs.declared.bound_query.BoundQuery.{BoundQuery}
use Rattle.mm_delta.specs.Candidates.{Required, candidates, passes}
use Rattle.mm_delta.specs.Edited.{before_at, come_at, edits_at, gone_at, has_index, walked}
use Rattle.mm_delta.specs.Walk.{one_row, other_places}
use Rattle.mm_delta.specs.Wanted.{value_wanted}
use Rattle.mm_delta.specs.declared.edited.TableChange.{TableChange}
use Rattle.mm_delta.specs.declared.look_up.LookUp.{LookUp}

-- The edit deletes or replaces the row of a reference.
abbrev pub takes : RowRef → Edit → Bool
takes at (Stage other) = false
takes at (Insert other) = false
takes at (Update old other) = same_ref old at
takes at (Move old other) = same_ref old at
takes at (Delete old) = same_ref old at

-- No edit deletes or replaces the row of a reference.
abbrev pub stays : List Edit → RowRef → Bool
stays edits at = not (list_any (takes at) edits)

-- The column and the value that a look-up requires of a row.
abbrev pub asked : Option LookUp → Option Required
asked look_up = option_map (λ (l : LookUp). (l.column, value_wanted l.wanted)) look_up

-- The table has the index of the look-up, and the index is on its column.
abbrev pub IsServed : Tables → ℕ → LookUp → Type 0
IsServed store table look_up = (stored : StoredRows) → IsAt store table stored → IsIndexOn stored look_up.column look_up.index

-- The edits of each table may be made together.
abbrev pub EachFit : Tables → List TableChange → Type 0
EachFit store changes = (table : ℕ) (stored : StoredRows) → IsAt store table stored → AreReady stored (edits_at changes table)

-- Each of the places is one of FROM, and its table exists.
abbrev pub HasTables : List ℕ → Tables → List ℕ → Type 0
HasTables tables store places = AllByRecursion (λ j. (j < length tables) × (get_or tables j 0 < length store.tables)) places

-- The number of rows that may be read for some rows, while places are still empty.
abbrev pub reads_for : BoundQuery → Tables → List TableChange → List ℕ → ℕ → List ℕ → Partial → ℕ
reads_for query store changes tables k places rows =
    candidates (λ j. has_index store (get_or tables j 0)) query.atoms (λ j. before_at store (get_or tables j 0)) (walked store changes tables k) places rows

-- The number of rows that may be read for an edited row at a place of FROM besides the row itself: its candidates, and none if the row is
-- skipped.
abbrev pub row_reads : BoundQuery → Tables → List TableChange → List ℕ → (ℕ → List Value → Bool) → ℕ → List Value → ℕ
row_reads query store changes tables skipped k row =
    if skipped k row then 0 else reads_for query store changes tables k (other_places (length tables) k) (one_row (length tables) k row)

-- The number of rows that may be read for the edited rows at a place of FROM: each of them, and its candidates if it is not skipped.
abbrev pub term_reads : BoundQuery → Tables → List TableChange → List ℕ → (ℕ → List Value → Bool) → ℕ → ℕ
term_reads query store changes tables skipped k =
    sum_by (λ row. 1 + row_reads query store changes tables skipped k row)
    (gone_at store changes (get_or tables k 0) ++ come_at store changes (get_or tables k 0))

-- The edits of a table that apply at a place while place k has an edited row: all at places before k, and none after it.
abbrev pub edits_walked : List TableChange → ℕ → ℕ → ℕ → List Edit
edits_walked changes k place table = if nat_lt place k then edits_at changes table else []

-- Two lists have the same rows, each equally often.
abbrev pub AreAlike : List (List Value) → List (List Value) → Type 0
AreAlike xs ys = (f : List Value → ℕ) → sum_by f xs ≡ sum_by f ys

-- The row, if there is one and it passes a test.
abbrev pub kept_if : (List Value → Bool) → Option (List Value) → Option (List Value)
kept_if test None = None
kept_if test (Some row) = if test row then Some row else None

-- The new row of an edit, if it has the required value.
abbrev pub coming : Option Required → Slots → Edit → Option (List Value)
coming required now edit = kept_if (passes required) (option_map (row_at now) (new_slot edit))

-- The references are those of the table's rows that have the required value, each once.
abbrev pub IsFoundOf : Option Required → StoredRows → List RowRef → Type 0
IsFoundOf required stored found = IsPermutation found (filter (λ at. passes required (row_at (slot_at stored.places) at)) stored.refs)
