-- Counts by slot, and what a reader of them was last told.
use Rattle.std.specs.Prelude.{◌⊎◌, ◌≤◌, ◌≡◌, ◌≢◌, ℕ, ℤ, pos, ◌+ℤ◌, ◌-ℤ◌, ◌++◌, ◌<◌, ◌==◌, Bool, not, if◌then◌else◌, List, [], ◌∷◌, false}
use Rattle.std.specs.Prelude.{length, min, slice_index_or, slice_set, Option, None, Some}
use Rattle.std.specs.Option.{option_map}

-- What the reader was told: whether counts above 1 are told as 1, and the number last told for each slot.
pub record Telling : Type 0 where
  pub distinct : Bool
  pub told : List ℕ

-- The count of each slot, what the reader was told if there is one, and the number of further slots that need no allocation.
pub record Numbers : Type 0 where
  pub counts : List ℕ
  pub feed : Option Telling
  pub room : ℕ

-- A feed: what was told, whether the number of each slot differs now, and the number of further slots that need no allocation.
pub record Fed : Type 0 where
  pub distinct : Bool
  pub told : List ℕ
  pub changed : List Bool
  pub room : ℕ

-- The count is not 0.
abbrev pub is_counted : ℕ → Bool
is_counted count = not (count == 0)

-- The number to tell for a count.
abbrev pub shown_count : Bool → ℕ → ℕ
shown_count distinct count = if distinct then min count 1 else count

-- The numbers are not equal.
abbrev pub differs : ℕ → ℕ → Bool
differs m n = not (m == n)

-- Each slot has a flag, which is set exactly if its number in the first list differs from the one in the second.
pub record Tells (flags : List Bool) (shown told : List ℕ) : Type 0 where
  pub size : length flags ≡ length shown
  pub each : (i : ℕ) → slice_index_or flags i false ≡ differs (slice_index_or shown i 0) (slice_index_or told i 0)

-- What a feed has told.
abbrev pub telling_of : Fed → Telling
telling_of f = record { distinct = f.distinct; told = f.told }

-- The capacity for further slots, in a feed too if there is one.
abbrev pub room_with : ℕ → Option Fed → ℕ
room_with room None = room
room_with room (Some f) = min room f.room

-- The feed once it has recorded the count of a slot.
abbrev pub noted : ℕ → ℕ → Fed → Fed
noted slot count f =
    record f { changed = slice_set f.changed slot (differs (shown_count f.distinct count) (slice_index_or f.told slot 0)) }

-- One more slot, for which 0 was told.
abbrev pub grown : Telling → Telling
grown t = record t { told = t.told ++ 0 ∷ [] }

-- The number that was last told for a slot: 0 if there is no reader.
abbrev pub told_at : Option Telling → ℕ → ℕ
told_at None slot = 0
told_at (Some t) slot = slice_index_or t.told slot 0

-- The count at a slot differs by the change, and no other count differs.
pub record IsRecounted (slot : ℕ) (change : ℤ) (old new : List ℕ) : Type 0 where
  pub count : ℕ
  pub changed : pos count ≡ pos (slice_index_or old slot 0) +ℤ change
  pub set : new ≡ slice_set old slot count

-- The slot had a count and nothing differs, or it is appended with the count 0, and 0 was told for it.
abbrev pub IsCovered : ℕ → Numbers → Numbers → Type 0
IsCovered slot old new =
    ((slot < length old.counts) × (new.counts ≡ old.counts) × (new.feed ≡ old.feed))
    ⊎ ((length old.counts ≤ slot) × (new.counts ≡ old.counts ++ 0 ∷ []) × (new.feed ≡ option_map grown old.feed))

-- The slot has the count, and no other count differs. The slot had a count, or it is appended.
abbrev pub IsWritten : ℕ → ℕ → List ℕ → List ℕ → Type 0
IsWritten slot count old new = ((slot < length old) × (new ≡ slice_set old slot count)) ⊎ ((length old ≤ slot) × (new ≡ old ++ count ∷ []))

-- The reader was told the same; for a slot after the last one, 0 was told.
abbrev pub IsToldSame : ℕ → Numbers → Option Telling → Type 0
IsToldSame slot old feed = ((slot < length old.counts) × (feed ≡ old.feed)) ⊎ ((length old.counts ≤ slot) × (feed ≡ option_map grown old.feed))

-- The number of the slot differs from what was last told.
pub record IsChanged (numbers : Numbers) (slot : ℕ) : Type 0 where
  pub within : slot < length numbers.counts
  pub before : Telling
  pub was : numbers.feed ≡ Some before
  pub other : shown_count before.distinct (slice_index_or numbers.counts slot 0) ≢ slice_index_or before.told slot 0

-- The number of a slot, for a count, minus what was last told: 0 if there is no reader.
abbrev pub change_of : Option Telling → ℕ → ℕ → ℤ
change_of None slot count = pos 0
change_of (Some t) slot count = pos (shown_count t.distinct count) -ℤ pos (slice_index_or t.told slot 0)

-- The number of a slot minus what was last told.
abbrev pub change_at : Numbers → ℕ → ℤ
change_at numbers slot = change_of numbers.feed slot (slice_index_or numbers.counts slot 0)

-- The number of a slot is told.
abbrev pub with_told : ℕ → List ℕ → Telling → Telling
with_told slot counts t = record t { told = slice_set t.told slot (shown_count t.distinct (slice_index_or counts slot 0)) }

-- The change of a slot is told: by how much its number differs from what was last told, which is not 0. All else was told before.
pub record IsTaken (slot : ℕ) (by : ℤ) (old new : Numbers) : Type 0 where
  pub within : slot < length old.counts
  pub some : by ≢ pos 0
  pub before : Telling
  pub was : old.feed ≡ Some before
  pub change : by ≡ change_of (Some before) slot (slice_index_or old.counts slot 0)
  pub now : new.feed ≡ Some (with_told slot old.counts before)

-- No slot has a number that differs from what was last told.
abbrev pub IsAllTold : Option Telling → List ℕ → Type 0
IsAllTold None counts = Unit {0}
IsAllTold (Some t) counts = (slot : ℕ) → slice_index_or t.told slot 0 ≡ shown_count t.distinct (slice_index_or counts slot 0)
