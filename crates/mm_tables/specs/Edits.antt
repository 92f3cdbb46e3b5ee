-- Edits of the slots of one table, forwards and back.
use Rattle.std.specs.Prelude.{◌≡◌, ℕ, ◌+◌, ◌⊎◌, Bool, true, false, cond, eqb, Option, Some, None}
use Rattle.std.specs.declared.cmp.Ordering.TheVariants.{Equal}
use Rattle.mm_value.specs.declared.row_ref.RowRef.{RowRef}
use Rattle.mm_partition.specs.Places.{Content, Free, Live, Hidden}
use Rattle.mm_row_order.specs.Refs.{Slots, HasRow, HasHidden, row_at}
use Rattle.mm_indexed.specs.Twins.{keys_by}
use Rattle.mm_tables.specs.declared.edit.Edit.{Edit}
use Rattle.mm_tables.specs.declared.index_room.IndexRoom.{IndexRoom}
use Rattle.mm_tables.specs.declared.edit.Edit.TheVariants.{Stage, Insert, Update, Move, Delete}

-- two references name one slot
abbrev pub same_ref : RowRef → RowRef → Bool
same_ref a b = eqb a.slot b.slot

-- one slot has this content, and every other slot its own
abbrev pub put : RowRef → Content → Slots → Slots
put r content now at = cond (same_ref r at) content (now at)

-- the rows of two slots are exchanged: the first slot is live, the second one hidden
abbrev pub exchanged : RowRef → RowRef → Slots → Slots
exchanged a b now = put a (Live (row_at now b)) (put b (Hidden (row_at now a)) now)

-- the slots after an edit
abbrev pub step : Edit → Slots → Slots
step (Stage r) now = now
step (Insert r) now = put r (Live (row_at now r)) now
step (Update a b) now = exchanged a b now
step (Move a b) now = exchanged a b now
step (Delete r) now = put r (Hidden (row_at now r)) now

-- the slots before an edit
abbrev pub step_back : Edit → Slots → Slots
step_back (Stage r) now = put r Free now
step_back (Insert r) now = put r (Hidden (row_at now r)) now
step_back (Update a b) now = exchanged a b now
step_back (Move a b) now = exchanged a b now
step_back (Delete r) now = put r (Live (row_at now r)) now

-- The slots are as an edit requires them. No edit stages a row: that needs values.
abbrev pub Fits : ℕ → Slots → Edit → Type 0
Fits key now (Stage r) = ⊥
Fits key now (Insert r) = HasHidden now r
Fits key now (Update a b) = HasRow now a × HasHidden now b × (keys_by key now a b ≡ Equal)
Fits key now (Move a b) = HasRow now a × HasHidden now b
Fits key now (Delete r) = HasRow now r

-- The slots are as an edit leaves them.
abbrev pub Stands : ℕ → Slots → Edit → Type 0
Stands key now (Stage r) = HasHidden now r
Stands key now (Insert r) = HasRow now r
Stands key now (Update a b) = HasRow now a × HasHidden now b × (keys_by key now a b ≡ Equal)
Stands key now (Move a b) = HasRow now a × HasHidden now b
Stands key now (Delete r) = HasHidden now r

-- the most entries that an edit inserts into the index on the key
abbrev pub key_places_made : Edit → ℕ
key_places_made (Stage r) = 0
key_places_made (Insert r) = 1
key_places_made (Update a b) = 0
key_places_made (Move a b) = 1
key_places_made (Delete r) = 0

-- the most entries that an edit inserts into each further index
abbrev pub places_made : Edit → ℕ
places_made (Stage r) = 0
places_made (Insert r) = 1
places_made (Update a b) = 1
places_made (Move a b) = 1
places_made (Delete r) = 0

-- the most entries that the undo of an edit inserts into the index on the key
abbrev pub key_places_back : Edit → ℕ
key_places_back (Stage r) = 0
key_places_back (Insert r) = 0
key_places_back (Update a b) = 0
key_places_back (Move a b) = 1
key_places_back (Delete r) = 1

-- the most entries that the undo of an edit inserts into each further index
abbrev pub places_back : Edit → ℕ
places_back (Stage r) = 0
places_back (Insert r) = 0
places_back (Update a b) = 1
places_back (Move a b) = 1
places_back (Delete r) = 1

-- the most entries that an edit and its undo insert into the index on the key
abbrev pub key_places : Edit → ℕ
key_places e = key_places_made e + key_places_back e

-- the most entries that an edit and its undo insert into each further index
abbrev pub places : Edit → ℕ
places e = places_made e + places_back e

-- A table owes the capacity for the undo of one more edit.
pub record Owes (e : Edit) (old new : IndexRoom) : Type 0 where
  pub key : new.key ≡ old.key + key_places_back e
  pub indexes : new.indexes ≡ old.indexes + places_back e

-- the slot that an edit made hidden
abbrev pub kept_by : Edit → Option RowRef
kept_by (Stage r) = Some r
kept_by (Insert r) = None
kept_by (Update a b) = None
kept_by (Move a b) = None
kept_by (Delete r) = Some r

-- the row that an edit brings into use, or whose values it replaces
abbrev pub came_by : Edit → Option RowRef
came_by (Stage r) = None
came_by (Insert r) = Some r
came_by (Update a b) = Some a
came_by (Move a b) = Some a
came_by (Delete r) = None

-- the row that an edit brings may have a new key: only an Update keeps the key
abbrev pub has_new_key : Edit → Bool
has_new_key (Stage r) = false
has_new_key (Insert r) = true
has_new_key (Update a b) = false
has_new_key (Move a b) = true
has_new_key (Delete r) = false

-- no slot has a hidden row
abbrev pub NoneHidden : Slots → Type 0
NoneHidden now = (at : RowRef) → HasHidden now at → ⊥

-- the slot that an edit made hidden is not hidden now
abbrev pub IsCleared : Slots → Edit → Type 0
IsCleared now e = (at : RowRef) → kept_by e ≡ Some at → HasHidden now at → ⊥

-- each slot is as before, or a hidden row was dropped from it
abbrev pub DropsHidden : Slots → Slots → Type 0
DropsHidden old new = (at : RowRef) → (new at ≡ old at) ⊎ (HasHidden old at × (new at ≡ Free))
