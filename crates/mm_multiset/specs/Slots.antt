-- The invariant of a bag. No public clause cites this module.
use Rattle.std.specs.Prelude.{◌≡◌, ℕ, suc, ◌<◌, ◌==◌, Bool, if◌then◌else◌, List, [], ◌∷◌, ◌++◌, Option, Some, None}
use Rattle.std.specs.Prelude.{length, slice_index_or, IsPermutation}
use Rattle.mm_value.specs.declared.row_ref.RowRef.{RowRef}
use Rattle.mm_value.specs.declared.values.Value.{Value}
use Rattle.mm_partition.specs.Places.{Content, Free, Live, Hidden, row_in}
use Rattle.slot_counts.specs.Numbers.{Telling}
use Rattle.mm_multiset.specs.Counts.{Entries, Feed, IsOnce}
use Rattle.mm_multiset.specs.RowHash.{row_hash}

-- The entry of a slot, if it has a row.
abbrev pub entry_of : Content → ℕ → Entries
entry_of Free count = []
entry_of (Live row) count = (row, count) ∷ []
entry_of (Hidden row) count = []

-- The entries of slots with these counts.
abbrev pub entries_of : List Content → List ℕ → Entries
entries_of [] counts = []
entries_of (slot ∷ slots) [] = []
entries_of (slot ∷ slots) (count ∷ counts) = entry_of slot count ++ entries_of slots counts

-- The pair of a slot in the hash table, if the slot has a row.
abbrev pub pair_of : ℕ → Content → List (ℕ × RowRef)
pair_of i Free = []
pair_of i (Live row) = (row_hash row, record { slot = i }) ∷ []
pair_of i (Hidden row) = []

-- The pairs of the slots from an index on.
abbrev pub pairs_from : ℕ → List Content → List (ℕ × RowRef)
pairs_from i [] = []
pairs_from i (slot ∷ slots) = pair_of i slot ++ pairs_from (suc i) slots

-- A slot without an entry has the count 0.
abbrev pub IsMarked : Content → ℕ → Type 0
IsMarked Free count = count ≡ 0
IsMarked (Live row) count = Unit {0}
IsMarked (Hidden row) count = count ≡ 0

-- Each slot has a count.
pub record AreMarked (slots : List Content) (counts : List ℕ) : Type 0 where
  pub size : length counts ≡ length slots
  pub each : (i : ℕ) → IsMarked (slice_index_or slots i Free) (slice_index_or counts i 0)

-- Each slot has a count, no two slots have the same row, and the pairs are those of the slots.
pub record IsKept (slots : List Content) (counts : List ℕ) (pairs : List (ℕ × RowRef)) : Type 0 where
  pub marked : AreMarked slots counts
  pub once : IsOnce (entries_of slots counts)
  pub hashed : IsPermutation pairs (pairs_from 0 slots)

-- The entry of the slot at an index.
abbrev pub entry_at : List Content → List ℕ → ℕ → List Value × ℕ
entry_at slots counts i = (row_in (slice_index_or slots i Free), slice_index_or counts i 0)

-- Each of these slots has a row.
abbrev pub IsWalk : List Content → List ℕ → List ℕ → Type 0
IsWalk slots counts shown =
    (k : ℕ) (d : ℕ) → k < length shown
    → (slice_index_or shown k d < length counts) × ((row : List Value) × (slice_index_or slots (slice_index_or shown k d) Free ≡ Live row))

-- ---- the feed

-- The content of a slot without the row of a removed entry.
abbrev pub in_use : Content → Content
in_use Free = Free
in_use (Live row) = Live row
in_use (Hidden row) = Free

-- What a removed entry leaves in its slot: its row, hidden, if a change is owed for it.
abbrev pub left_by : Bool → List Value → Content
left_by is_owed row = if is_owed then Hidden row else Free

-- The row of a slot with the number that was told for it, unless that is 0.
abbrev pub told_part : Content → ℕ → Entries
told_part slot told = if told == 0 then [] else (row_in slot, told) ∷ []

-- The rows of slots with the numbers that were told.
abbrev pub told_of : List Content → List ℕ → Entries
told_of [] told = []
told_of (slot ∷ slots) [] = []
told_of (slot ∷ slots) (told ∷ more) = told_part slot told ++ told_of slots more

-- What the reader was told.
abbrev pub feed_of : List Content → Option Telling → Option Feed
feed_of slots None = None
feed_of slots (Some t) = Some (record { distinct = t.distinct; told = told_of slots t.told })

-- A number was told for each slot: 0 for a free one.
pub record HasTold (slots : List Content) (told : List ℕ) : Type 0 where
  pub size : length told ≡ length slots
  pub free : (i : ℕ) → slice_index_or slots i Free ≡ Free → slice_index_or told i 0 ≡ 0

-- The feed has a number for each slot.
abbrev pub IsFed : List Content → Option Telling → Type 0
IsFed slots None = Unit {0}
IsFed slots (Some t) = HasTold slots t.told
