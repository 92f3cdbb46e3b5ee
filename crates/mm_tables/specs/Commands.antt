-- The edits of a command in one table.
use Rattle.std.specs.Prelude.{◌≡◌, ◌≢◌, ℕ, ◌+◌, ◌≤◌, Bool, true, false, List, [], ◌∷◌, Some, All, AllPairs, length, map}
use Rattle.std.specs.Bool.{OnTrue}
use Rattle.std.specs.List.{list_all, sum_by}
use Rattle.mm_value.specs.declared.row_ref.RowRef.{RowRef}
use Rattle.mm_schema.specs.Rows.{most_rows}
use Rattle.mm_row_order.specs.Refs.{Slots, HasRow}
use Rattle.mm_indexed.specs.Kept.{StoredRows}
use Rattle.mm_indexed.specs.Twins.{HasTwin}
use Rattle.mm_indexed.specs.declared.exchange.Exchange.{Exchange}
use Rattle.mm_tables.specs.declared.bulk.Bulk.{Bulk}
use Rattle.mm_tables.specs.declared.bulk.Bulk.TheVariants.{Deletions, Updates}
use Rattle.mm_tables.specs.Edits.{step, Fits, came_by, has_new_key, key_places_back, places_back}
use Rattle.mm_tables.specs.declared.edit.Edit.{Edit}
use Rattle.mm_tables.specs.declared.edit.Edit.TheVariants.{Stage, Insert, Update, Move, Delete}
use Rattle.mm_tables.specs.declared.index_room.IndexRoom.{IndexRoom}

-- the slots after these edits, the first edit first
abbrev pub after : List Edit → Slots → Slots
after [] now = now
after (e ∷ es) now = after es (step e now)

-- each edit fits the slots after the edits before it
abbrev pub FitsForth : ℕ → List Edit → Slots → Type 0
FitsForth key [] now = Unit {0}
FitsForth key (e ∷ es) now = Fits key now e × FitsForth key es (step e now)

-- an edit does not name a slot
abbrev pub LeavesOut : Edit → RowRef → Type 0
LeavesOut (Stage s) r = s ≢ r
LeavesOut (Insert s) r = s ≢ r
LeavesOut (Update a b) r = (a ≢ r) × (b ≢ r)
LeavesOut (Move a b) r = (a ≢ r) × (b ≢ r)
LeavesOut (Delete s) r = s ≢ r

-- two edits have no slot in common
abbrev pub IsApart : Edit → Edit → Type 0
IsApart e (Stage r) = LeavesOut e r
IsApart e (Insert r) = LeavesOut e r
IsApart e (Update a b) = LeavesOut e a × LeavesOut e b
IsApart e (Move a b) = LeavesOut e a × LeavesOut e b
IsApart e (Delete r) = LeavesOut e r

-- The edits of one command: each fits the slots as they are, and no two have a slot in common.
pub record IsCommand (key : ℕ) (edits : List Edit) (now : Slots) : Type 0 where
  pub fits : All (Fits key now) edits
  pub apart : AllPairs IsApart edits

-- the row that an edit brought is in use
abbrev pub CameLive : Slots → Edit → Type 0
CameLive now e = (at : RowRef) → came_by e ≡ Some at → HasRow now at

-- no other row has its key
abbrev pub CameAlone : ℕ → Slots → Edit → Type 0
CameAlone key now e = (at : RowRef) → came_by e ≡ Some at → HasTwin key now at → ⊥

-- .. if its key may be new
abbrev pub NewKeyAlone : ℕ → Slots → Edit → Type 0
NewKeyAlone key now e = OnTrue (has_new_key e) (CameAlone key now e)

-- an edit is a deletion
abbrev pub is_delete : Edit → Bool
is_delete (Stage r) = false
is_delete (Insert r) = false
is_delete (Update a b) = false
is_delete (Move a b) = false
is_delete (Delete r) = true

-- the rows of a pair are exchanged, and have one key
abbrev pub update : Exchange → Edit
update e = Update e.at e.other

-- The edits are deletions, as many as there are rows in use, and at most as many as a table may have.
pub record DeletesAll (edits : List Edit) (rows : StoredRows) : Type 0 where
  pub deletions : list_all is_delete edits ≡ true
  pub as_many : length edits ≡ length rows.refs
  pub few : length edits ≤ most_rows

-- Edits can be made in this way: they delete all rows of the table, or they update the rows of these pairs.
abbrev pub Suits : List Edit → StoredRows → Bulk → Type 0
Suits edits rows Deletions = DeletesAll edits rows
Suits edits rows (Updates pairs) = edits ≡ map update pairs.items

-- A table owes the capacity for the undo of these edits in addition.
pub record OwesAll (edits : List Edit) (old new : IndexRoom) : Type 0 where
  pub key : new.key ≡ old.key + sum_by key_places_back edits
  pub indexes : new.indexes ≡ old.indexes + sum_by places_back edits
