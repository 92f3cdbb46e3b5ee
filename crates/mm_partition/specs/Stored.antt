-- The invariant of partitions. No public clause cites this module.
use Rattle.std.specs.Prelude.{◌≡◌, ◌≢◌, ℕ, suc, ◌+◌, ◌^◌, ◌<◌, ◌≤◌, List, [], ◌∷◌, length, Bool, true, false, Some, All, AllPairs, slice_get}
use Rattle.std.specs.Prelude.{slice_index_or, count_by}
use Rattle.mm_value.specs.declared.values.Value.{Value}
use Rattle.mm_partition.specs.declared.columns.Column.{Column}
use Rattle.mm_partition.specs.declared.slots.State.{State}
use Rattle.mm_partition.specs.declared.slots.State.TheVariants as state
use Rattle.mm_partition.specs.Cells.{row_of, Fits}
use Rattle.mm_partition.specs.Places.{Content, Free, Live, Hidden, IsStorableIn}

-- the content of a slot in this state, with these values in its cells
abbrev pub content : State → List Value → Content
content state.Free row = Free
content state.Live row = Live row
content state.Hidden row = Hidden row

-- the contents of the slots from an index on
abbrev pub contents_from : ℕ → List Column → List State → List Content
contents_from i columns [] = []
contents_from i columns (s ∷ ss) = content s (row_of columns i) ∷ contents_from (suc i) columns ss

-- the slot has a row
abbrev pub is_taken : State → Bool
is_taken state.Free = false
is_taken state.Live = true
is_taken state.Hidden = true

-- The stack has each free slot once, and all other slots have rows.
pub record IsFreeStack (states : List State) (free : List ℕ) : Type 0 where
  pub each : All (λ i. slice_get states i ≡ Some state.Free) free
  pub apart : AllPairs (λ a b. a ≢ b) free
  pub counted : length free + count_by is_taken states ≡ length states

-- The slots from some index on were removed, and each was free.
pub record IsCut (old new : List State) : Type 0 where
  pub size : length new ≤ length old
  pub below : (i : ℕ) → i < length new → slice_get new i ≡ slice_get old i
  pub above : (i : ℕ) → length new ≤ i → i < length old → slice_get old i ≡ Some state.Free

-- there is a last slot, and it is free
abbrev pub EndsFree : List State → Type 0
EndsFree states = (i : ℕ) × (i + 1 ≡ length states) × (slice_get states i ≡ Some state.Free)

-- the last slot, if there is one, has a row
abbrev pub EndsTaken : List State → Type 0
EndsTaken states = (i : ℕ) (s : State) → i + 1 ≡ length states → slice_get states i ≡ Some s → is_taken s ≡ true

-- The free slots are on the stack. All vectors have capacity for the further slots, and the stack also for freeing every slot. All these
-- slots are fewer than 2^32, and all values are within their limits.
pub record IsStored (states : List State) (free : List ℕ) (states_capacity free_capacity spare : ℕ) (columns : List Column) : Type 0 where
  pub free_slots : IsFreeStack states free
  pub states_room : length states + spare ≤ states_capacity
  pub free_room : length states + spare ≤ free_capacity
  pub few : length states + spare < 2 ^ 32
  pub cells : All (Fits (length states) spare) columns
  pub storable : (i : ℕ) → IsStorableIn (slice_index_or (contents_from 0 columns states) i Free)
