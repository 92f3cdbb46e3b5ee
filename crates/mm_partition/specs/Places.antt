-- The contents of slots, by reference.
use Rattle.std.specs.Prelude.{◌≡◌, ◌≢◌, ℕ, ◌-◌, ◌^◌, ◌<◌, List, [], Bool, true, false, length, slice_index_or}
use Rattle.mm_value.specs.Storable.{AreStorable}
use Rattle.mm_value.specs.declared.col_type.ColType.{ColType}
use Rattle.mm_value.specs.declared.row_ref.RowRef.{RowRef}
use Rattle.mm_value.specs.declared.values.Value.{Value}

-- the content of a slot: nothing, a row in use, or a hidden row
pub data Content : Type 0 where
  Free : Content
  Live : (row : List Value) → Content
  Hidden : (row : List Value) → Content

-- Partitions: the contents of their slots, 64 to a partition, the number of further rows that fit the capacity, and the types of the
-- columns.
pub record Places : Type 0 where
  pub slots : List Content
  pub room : ℕ
  pub types : List ColType

-- the number of slots that have been used and not been given back
abbrev pub extent_of : Places → ℕ
extent_of places = length places.slots

-- the content of the slot at an index, free if there is no such slot
abbrev pub content_at : Places → ℕ → Content
content_at places i = slice_index_or places.slots i Free

-- the content of the slot of a reference
abbrev pub slot_at : Places → RowRef → Content
slot_at places at = content_at places at.slot

-- the row in a slot, without values if there is none
abbrev pub row_in : Content → List Value
row_in Free = []
row_in (Live row) = row
row_in (Hidden row) = row

-- the slot has a row, live or hidden
abbrev pub holds_row : Content → Bool
holds_row Free = false
holds_row (Live row) = true
holds_row (Hidden row) = true

abbrev pub IsTaken : Content → Type 0
IsTaken content = holds_row content ≡ true

-- the reference has a live row
abbrev pub IsLive : Places → RowRef → Type 0
IsLive places at = (row : List Value) × (slot_at places at ≡ Live row)

-- the reference has a hidden row
abbrev pub IsHidden : Places → RowRef → Type 0
IsHidden places at = (row : List Value) × (slot_at places at ≡ Hidden row)

-- every slot is unchanged
abbrev pub IsUnchanged : Places → Places → Type 0
IsUnchanged old new = (at : RowRef) → slot_at new at ≡ slot_at old at

-- this slot has this content now, and every other slot is unchanged
pub record ChangesOnly (old new : Places) (at : RowRef) (slot : Content) : Type 0 where
  pub changed : slot_at new at ≡ slot
  pub others : (other : RowRef) → other ≢ at → slot_at new other ≡ slot_at old other

-- these two slots have these contents now, and every other slot is unchanged
pub record ChangesTwo (old new : Places) (a b : RowRef) (first_slot second_slot : Content) : Type 0 where
  pub first : slot_at new a ≡ first_slot
  pub second : slot_at new b ≡ second_slot
  pub others : (other : RowRef) → other ≢ a → other ≢ b → slot_at new other ≡ slot_at old other

-- the row in the slot, if there is one, has values within their limits: integers of 64 bits, and texts of at most 64 bytes
abbrev pub IsStorableIn : Content → Type 0
IsStorableIn Free = Unit {0}
IsStorableIn (Live row) = AreStorable row
IsStorableIn (Hidden row) = AreStorable row

-- the values of each row, live or hidden, are within their limits
abbrev pub AreRowsStorable : Places → Type 0
AreRowsStorable places = (at : RowRef) → IsStorableIn (slot_at places at)

-- the slot of each live reference has an index below 2^32 - 1
abbrev pub AreReferencesSmall : Places → Type 0
AreReferencesSmall places = (at : RowRef) → IsLive places at → at.slot < 2 ^ 32 - 1
