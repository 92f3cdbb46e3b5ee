-- Multisets of rows, stored as counts.
use Rattle.std.specs.Prelude.{◌==◌, not, ◌≡◌, ◌≢◌, ℕ, ℤ, pos, neg_ℤ, ◌+◌, ◌+ℤ◌, ◌<ℤ◌}
use Rattle.std.specs.Prelude.{◌^◌, ◌⊎◌, Bool, true, false, if◌then◌else◌, is_some, List, [], ◌∷◌, All, map}
use Rattle.std.specs.Prelude.{Option, Some, None}
use Rattle.std.specs.Prelude.{slice_index_or, slice_set, sum}
use Rattle.std.specs.List.{IsDistinct, count_by}
use Rattle.std.specs.Map.{keys_of, values_of, lookup}
use Rattle.std.specs.Option.{unwrap_or}
use Rattle.mm_multiset.specs.RowHash.{row_hash}
use Rattle.mm_multiset.specs.declared.entry_ref.EntryRef.{EntryRef}
use Rattle.mm_partition.specs.Places.{Content, Free, Live, holds_row, row_in}
use Rattle.slot_counts.specs.Numbers.{shown_count}
use Rattle.mm_value.specs.Equality.{same_row}
use Rattle.mm_value.specs.declared.col_type.ColType.{ColType}
use Rattle.mm_value.specs.declared.row_ref.RowRef.{RowRef}
use Rattle.mm_value.specs.declared.values.Value.{Value}
use Rattle.mm_multiset.specs.declared.signed.Signed.{Signed}

-- The rows of a multiset with their counts, in the order of the entries.
abbrev pub Entries : Type 0
Entries = List (List Value × ℕ)

-- What the reader of a bag was told: whether each row counts at most once, and rows with the numbers that were told. A row that was removed
-- and inserted again may be in the list twice.
pub record Feed : Type 0 where
  pub distinct : Bool
  pub told : Entries

-- A bag: the slots of its entries; the same slots with the rows that are kept to be told; its entries; what its reader was told, if there is
-- one; the number of new entries that fit the capacity; and the types of the columns.
pub record Counts : Type 0 where
  pub slots : List Content
  pub held : List Content
  pub entries : Entries
  pub feed : Option Feed
  pub room : ℕ
  pub types : List ColType

-- The number of occurrences of a row in a list of rows.
abbrev pub count_of : List Value → List (List Value) → ℕ
count_of row rows = count_by (same_row row) rows

-- The count of a row: 0 if it has no entry.
abbrev pub count_in : List Value → Entries → ℕ
count_in row entries = unwrap_or (lookup (same_row row) entries) 0

-- The row has an entry.
abbrev pub has_entry : List Value → Entries → Bool
has_entry row entries = is_some (lookup (same_row row) entries)

-- No row has two entries.
abbrev pub IsOnce : Entries → Type 0
IsOnce entries = IsDistinct same_row (keys_of entries)

-- The sum of all counts.
abbrev pub total_of : Entries → ℕ
total_of entries = sum (values_of entries)

-- The count of the entry is not 0.
abbrev pub has_rows : List Value × ℕ → Bool
has_rows entry = not (entry.1 == 0)

-- The row of the slot of a reference.
abbrev pub row_at : List Content → EntryRef → List Value
row_at slots entry = row_in (slice_index_or slots entry.slot.slot Free)

-- The reference leads to the entry of a row: its slot has the row, and its hash is the row's.
pub record IsEntry (slots : List Content) (entry : EntryRef) (row : List Value) : Type 0 where
  pub live : slice_index_or slots entry.slot.slot Free ≡ Live row
  pub hash : entry.hash ≡ row_hash row

-- The reference leads to an entry.
abbrev pub IsThere : List Content → EntryRef → Type 0
IsThere slots entry = IsEntry slots entry (row_at slots entry)

-- All slots are unchanged, or the slot of an entry is free and its row has no entry.
abbrev pub MayFree : EntryRef → Counts → Counts → Type 0
MayFree entry old new =
    (new.slots ≡ old.slots)
    ⊎ ((new.slots ≡ slice_set old.slots entry.slot.slot Free) × (has_entry (row_at old.slots entry) new.entries ≡ false))

-- The sum of the changes of a row in a list of changes.
abbrev pub signed_count : List Value → List Signed → ℤ
signed_count row [] = pos 0
signed_count row (change ∷ changes) = (if same_row row change.row then change.count else pos 0) +ℤ signed_count row changes

-- The count of the row changes by the number, and the row has an entry. Every other row keeps its count, and its entry if it had one.
pub record Adds (change : Signed) (old new : Entries) : Type 0 where
  pub counts : (row : List Value) → pos (count_in row new) ≡ pos (count_in row old) +ℤ signed_count row (change ∷ [])
  pub entries : (row : List Value) → has_entry row new ≡ (if same_row change.row row then true else has_entry row old)

-- The changes are added one after another.
abbrev pub AddsAll : List Signed → Entries → Entries → Type 0
AddsAll [] old new = new ≡ old
AddsAll (change ∷ changes) old new = (mid : Entries) × Adds change old mid × AddsAll changes mid new

-- Each row is changed at most once, by a number other than 0 between -2^64 and 2^64.
pub record IsNet (changes : List Signed) : Type 0 where
  pub once : IsDistinct same_row (map (λ change. change.row) changes)
  pub nonzero : All (λ change. change.count ≢ pos 0) changes
  pub small : All (λ change. (neg_ℤ (pos (2 ^ 64)) <ℤ change.count) × (change.count <ℤ pos (2 ^ 64))) changes

-- ---- the feed

-- The sum of the numbers of a row in a list.
abbrev pub number_in : List Value → Entries → ℕ
number_in row [] = 0
number_in row (entry ∷ entries) = (if same_row row entry.0 then entry.1 else 0) + number_in row entries

-- A feed was started, for which nothing was told, or there was one and nothing changes.
abbrev pub IsStarted : Bool → Option Feed → Option Feed → Type 0
IsStarted distinct None new = new ≡ Some (record { distinct = distinct; told = [] })
IsStarted distinct (Some f) new = new ≡ Some f

-- The change of a row was told, which is not 0: the numbers told before and the change make the numbers told now.
pub record IsTold (held : List Content) (at : RowRef) (by : ℤ) (old new : Option Feed) : Type 0 where
  pub holds : holds_row (slice_index_or held at.slot Free) ≡ true
  pub some : by ≢ pos 0
  pub before : Feed
  pub was : old ≡ Some before
  pub after : Feed
  pub now : new ≡ Some after
  pub same : after.distinct ≡ before.distinct
  pub told : (row : List Value) → pos (number_in row after.told)
      ≡ pos (number_in row before.told) +ℤ signed_count row (record { row = row_in (slice_index_or held at.slot Free); count = by } ∷ [])

-- The number that was last told for each row is the one to tell now.
abbrev pub IsUpToDate : Option Feed → Entries → Type 0
IsUpToDate None entries = Unit {0}
IsUpToDate (Some f) entries = (row : List Value) → number_in row f.told ≡ shown_count f.distinct (count_in row entries)

-- The changes were told one after another.
abbrev pub AreTold : List Signed → Entries → Entries → Type 0
AreTold [] before after = after ≡ before
AreTold (change ∷ changes) before after =
    (mid : Entries) × ((row : List Value) → pos (number_in row mid) ≡ pos (number_in row before) +ℤ signed_count row (change ∷ []))
    × AreTold changes mid after
