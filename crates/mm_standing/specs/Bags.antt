-- The bags of standing queries, and changes of counts.
use Rattle.std.specs.Prelude.{◌≡◌, ◌≢◌, ◌==◌, ℕ, ℤ, pos, ◌+◌, ◌≤◌, ◌<◌, ◌<ℤ◌, ◌⊎◌, ◌^◌, ◌++◌, ◌+ℤ◌, ◌≤ℤ◌, neg_ℤ, Bool, true, false, not, if◌then◌else◌, All}
use Rattle.std.specs.Prelude.{length, List, [], ◌∷◌, Option, None}
use Rattle.std.specs.Prelude.{drop, map, slice_index_or, slice_set, take}
use Rattle.std.specs.List.{list_any}
use Rattle.mm_value.specs.Equality.{same_row}
use Rattle.mm_value.specs.declared.col_type.ColType.{ColType}
use Rattle.mm_value.specs.declared.values.Value.{Value}
use Rattle.mm_partition.specs.Places.{Content, Free}
use Rattle.mm_partition.specs.Types.{HasTypes}
use Rattle.mm_multiset.specs.Counts.{Counts, Entries, Feed, IsEntry, count_in, count_of, has_entry, row_at, signed_count, total_of}
use Rattle.mm_multiset.specs.Counts as bag
use Rattle.mm_multiset.specs.declared.entry_ref.EntryRef.{EntryRef}
use Rattle.mm_multiset.specs.declared.signed.Signed.{Signed}
use Rattle.mm_standing.specs.declared.change.ListChange.{ListChange}
use Rattle.mm_standing.specs.declared.change.RowChange.{RowChange}
use Rattle.mm_schema.specs.Rows.{most_rows}

-- The entries of the bag of a list; none if there is no such list.
abbrev pub entries_at : List Counts → ℕ → Entries
entries_at bags list = slice_index_or (map (λ (bag : Counts). bag.entries) bags) list []

-- The contents of the slots of the bag of a list; none if there is no such list.
abbrev pub slots_at : List Counts → ℕ → List Content
slots_at bags list = slice_index_or (map (λ (bag : Counts). bag.slots) bags) list []

-- What the reader of each bag was told.
abbrev pub feeds_of : List Counts → List (Option Feed)
feeds_of bags = map (λ (bag : Counts). bag.feed) bags

-- What the reader of the bag of a list was told; nothing if there is no such list.
abbrev pub feed_at : List Counts → ℕ → Option Feed
feed_at bags list = slice_index_or (feeds_of bags) list None

-- The slots of the bag of a list, with the rows that are kept to be told; none if there is no such list.
abbrev pub held_at : List Counts → ℕ → List Content
held_at bags list = slice_index_or (map (λ (bag : Counts). bag.held) bags) list []

-- The types of the columns of each bag.
abbrev pub types_of : List Counts → List (List ColType)
types_of bags = map (λ (bag : Counts). bag.types) bags

-- The types of the columns of the bag of a list; none if there is no such list.
abbrev pub types_at : List Counts → ℕ → List ColType
types_at bags list = slice_index_or (types_of bags) list []

-- The sum of changes, each read as a number.
abbrev pub sum_over : {X : Type 0} → (X → ℤ) → List X → ℤ
sum_over f [] = pos 0
sum_over f (c ∷ cs) = f c +ℤ sum_over f cs

-- The number that a change adds to the count of a row of a list.
abbrev pub row_change : ℕ → List Value → RowChange → ℤ
row_change list row c = if c.list == list then signed_count row (c.change ∷ []) else pos 0

-- The number that a change adds to the number of rows of a list.
abbrev pub list_change : ℕ → RowChange → ℤ
list_change list c = if c.list == list then c.change.count else pos 0

-- The count of a row of a list after changes.
abbrev pub count_with : List Counts → List RowChange → ℕ → List Value → ℤ
count_with bags changes list row = pos (count_in row (entries_at bags list)) +ℤ sum_over (row_change list row) changes

-- The number of rows of a list after changes.
abbrev pub total_with : List Counts → List RowChange → ℕ → ℤ
total_with bags changes list = pos (total_of (entries_at bags list)) +ℤ sum_over (list_change list) changes

-- After the changes no count is below 0, and no list has more than 1,048,576 rows.
pub record IsWithin (bags : List Counts) (changes : List RowChange) : Type 0 where
  pub counts : (list : ℕ) (row : List Value) → pos 0 ≤ℤ count_with bags changes list row
  pub totals : (list : ℕ) → total_with bags changes list ≤ℤ pos most_rows

-- Changes can be applied one after another, from the last to the first.
abbrev pub CanAdd : List Counts → List RowChange → Type 0
CanAdd bags changes = (k : ℕ) → IsWithin bags (drop k changes)

-- Changes can be applied one after another, from the first to the last.
abbrev pub CanMake : List Counts → List RowChange → Type 0
CanMake bags changes = (k : ℕ) → IsWithin bags (take k changes)

-- Changes turn the count of each row of a bag into the row's number in a list of rows. On the way, from the last change to the first, no
-- count is below 0 and the bag has at most 1,048,576 rows. Each change fits 64 bits.
pub record Brings (changes : List Signed) (entries : Entries) (rows : List (List Value)) : Type 0 where
  pub counts : (row : List Value) → pos (count_in row entries) +ℤ signed_count row changes ≡ pos (count_of row rows)
  pub stages : (k : ℕ) (row : List Value) → pos 0 ≤ℤ (pos (count_in row entries) +ℤ signed_count row (drop k changes))
  pub totals : (k : ℕ) → (pos (total_of entries) +ℤ sum_over (λ (change : Signed). change.count) (drop k changes)) ≤ℤ pos most_rows
  pub small : All (λ (change : Signed). (neg_ℤ (pos (2 ^ 63)) ≤ℤ change.count) × (change.count <ℤ pos (2 ^ 63))) changes

-- The changes that add rows are before those that remove rows.
abbrev pub HasGainsFirst : List Signed → Type 0
HasGainsFirst changes =
    (gains : ℕ) × All (λ (change : Signed). pos 0 ≤ℤ change.count) (take gains changes)
    × All (λ (change : Signed). change.count ≤ℤ pos 0) (drop gains changes)

-- The change that undoes a change.
abbrev pub opposite : RowChange → RowChange
opposite c = record { list = c.list; change = record { row = c.change.row; count = neg_ℤ c.change.count } }

-- The change fits 64 bits.
abbrev pub IsSmall : RowChange → Type 0
IsSmall c = (neg_ℤ (pos (2 ^ 63)) ≤ℤ c.change.count) × (c.change.count <ℤ pos (2 ^ 63))

-- The change is of this row of this list.
abbrev pub names : ℕ → List Value → RowChange → Bool
names list row c = if c.list == list then same_row row c.change.row else false

-- Some of the changes are of this row of this list.
abbrev pub is_named : ℕ → List Value → List RowChange → Bool
is_named list row changes = list_any (names list row) changes

-- Each entry with the count 0 is of a row that the log names. So no entry has the count 0 if the log is empty.
abbrev pub IsLean : List Counts → List RowChange → Type 0
IsLean bags log =
    (list : ℕ) (row : List Value) → has_entry row (entries_at bags list) ≡ true → count_in row (entries_at bags list) ≡ 0
    → is_named list row log ≡ true

-- The row of a change has the types of its list's columns.
abbrev pub IsTyped : List Counts → RowChange → Type 0
IsTyped bags c = HasTypes (types_at bags c.list) c.change.row

-- ---- changes of entries

-- The row whose count a change changes.
abbrev pub row_of : List Counts → ListChange → List Value
row_of bags c = row_at (slots_at bags c.list) c.entry

-- The change of the row's count.
abbrev pub change_of : List Counts → ListChange → RowChange
change_of bags c = record { list = c.list; change = record { row = row_of bags c; count = c.by } }

-- The changes of the rows' counts when changes of entries are applied.
abbrev pub done_of : List Counts → List ListChange → List RowChange
done_of bags changes = map (change_of bags) changes

-- The changes that undo those of a log.
abbrev pub undos : List Counts → List ListChange → List RowChange
undos bags log = map (λ (c : ListChange). opposite (change_of bags c)) log

-- The list of a change exists, and its entry is in the list.
pub record IsThere (bags : List Counts) (c : ListChange) : Type 0 where
  pub list : c.list < length bags
  pub entry : bag.IsThere (slots_at bags c.list) c.entry
  pub has : has_entry (row_of bags c) (entries_at bags c.list) ≡ true

-- The changes of rows in order, and whether the row's entry was inserted for each.
abbrev pub steps_of : List Counts → List ListChange → List (RowChange × Bool)
steps_of bags changes = map (λ (c : ListChange). (change_of bags c, c.is_new)) changes

-- The changes of rows of some steps.
abbrev pub changes_in : List (RowChange × Bool) → List RowChange
changes_in steps = map (λ (step : RowChange × Bool). step.0) steps

-- A step for which the row's entry was inserted is the first of the row.
abbrev pub AreFirst : List (RowChange × Bool) → List (RowChange × Bool) → Type 0
AreFirst earlier [] = Unit {0}
AreFirst earlier (step ∷ later) =
    (step.1 ≡ true → is_named step.0.list step.0.change.row (changes_in earlier) ≡ false) × AreFirst (earlier ++ step ∷ []) later

-- The entry of this row of this list was inserted for the step.
abbrev pub brings_entry : ℕ → List Value → RowChange × Bool → Bool
brings_entry list row step = if step.1 then names list row step.0 else false

-- Before the steps each entry has a count above 0, unless it was inserted for one of them.
abbrev pub AreBased : List Counts → List RowChange → List (RowChange × Bool) → Type 0
AreBased bags log steps =
    (list : ℕ) (row : List Value) → has_entry row (entries_at bags list) ≡ true → count_with bags log list row ≡ pos 0
    → list_any (brings_entry list row) steps ≡ true

-- The entries of the prepared and the logged changes exist. The prepared changes can be applied, first to last, and the logged ones undone,
-- last to first. An entry with the count 0 was inserted for one of the changes.
pub record IsSound (bags : List Counts) (prepared log : List ListChange) : Type 0 where
  pub there : All (IsThere bags) (log ++ prepared)
  pub make : CanMake bags (done_of bags prepared)
  pub undo : CanAdd bags (undos bags log)
  pub first : AreFirst [] (steps_of bags (log ++ prepared))
  pub based : AreBased bags (undos bags log) (steps_of bags (log ++ prepared))

-- The bags have the same entries in the same slots.
pub record AreSame (old new : List Counts) : Type 0 where
  pub entries : (list : ℕ) → entries_at new list ≡ entries_at old list
  pub slots : (list : ℕ) → slots_at new list ≡ slots_at old list
  pub types : types_of new ≡ types_of old
  pub size : length new ≡ length old

-- No other list has another feed.
abbrev pub IsFeedOf : ℕ → List Counts → List Counts → Type 0
IsFeedOf list old new = (other : ℕ) → other ≢ list → feed_at new other ≡ feed_at old other

-- A change was applied: its number was added to the count of its row in its list, and to no other. All entries remain.
pub record AddedTo (c : RowChange) (old new : List Counts) : Type 0 where
  pub counts : (list : ℕ) (row : List Value) → pos (count_in row (entries_at new list)) ≡ pos (count_in row (entries_at old list)) +ℤ row_change list row c
  pub totals : (list : ℕ) → pos (total_of (entries_at new list)) ≡ pos (total_of (entries_at old list)) +ℤ list_change list c
  pub entries : (list : ℕ) (row : List Value) → has_entry row (entries_at new list) ≡ has_entry row (entries_at old list)
  pub slots : (list : ℕ) → slots_at new list ≡ slots_at old list
  pub types : types_of new ≡ types_of old
  pub feeds : feeds_of new ≡ feeds_of old
  pub size : length new ≡ length old

-- The entry of a change was removed if its count was 0, and all else is unchanged.
pub record Purged (c : ListChange) (old new : List Counts) : Type 0 where
  pub counts : (list : ℕ) (row : List Value) → count_in row (entries_at new list) ≡ count_in row (entries_at old list)
  pub totals : (list : ℕ) → total_of (entries_at new list) ≡ total_of (entries_at old list)
  pub gone : IsThere old c → count_in (row_of old c) (entries_at old c.list) ≡ 0 → has_entry (row_of old c) (entries_at new c.list) ≡ false
  pub others : (list : ℕ) (row : List Value) → has_entry row (entries_at new list) ≡ true → has_entry row (entries_at old list) ≡ true
  pub beside : (list : ℕ) (row : List Value) → names list row (change_of old c) ≡ false
      → has_entry row (entries_at new list) ≡ has_entry row (entries_at old list)
  pub slots : (list : ℕ) → (slots_at new list ≡ slots_at old list)
      ⊎ ((c.list ≡ list) × (slots_at new list ≡ slice_set (slots_at old list) c.entry.slot.slot Free)
      × (has_entry (row_of old c) (entries_at new list) ≡ false))
  pub types : types_of new ≡ types_of old
  pub feeds : feeds_of new ≡ feeds_of old
  pub size : length new ≡ length old

-- A reference leads to the entry of a row in its list, which may be a new one, and all else is unchanged.
pub record Puts (c : RowChange) (entry : EntryRef) (is_new : Bool) (old new : List Counts) : Type 0 where
  pub counts : (list : ℕ) (row : List Value) → count_in row (entries_at new list) ≡ count_in row (entries_at old list)
  pub totals : (list : ℕ) → total_of (entries_at new list) ≡ total_of (entries_at old list)
  pub found : IsEntry (slots_at new c.list) entry c.change.row
  pub tells : is_new ≡ not (has_entry c.change.row (entries_at old c.list))
  pub entries : (list : ℕ) (row : List Value)
      → has_entry row (entries_at new list) ≡ (if names list row c then true else has_entry row (entries_at old list))
  pub kept : (list : ℕ) (other : EntryRef) (row : List Value) → IsEntry (slots_at old list) other row → IsEntry (slots_at new list) other row
  pub types : types_of new ≡ types_of old
  pub feeds : feeds_of new ≡ feeds_of old
  pub size : length new ≡ length old

-- Every row that has an entry has a count above 0.
abbrev pub ArePositive : Entries → Type 0
ArePositive entries = (row : List Value) → has_entry row entries ≡ true → 0 < count_in row entries

-- Prepared changes were applied and moved to the log. The counts once all are applied stay the same, and so do the counts at each mark once
-- the log is undone.
pub record Made (bags : List Counts) (prepared : List RowChange) (log : List RowChange) (bags' : List Counts) (prepared' : List RowChange)
    (log' : List RowChange) : Type 0 where
  pub counts : (list : ℕ) (row : List Value) → count_with bags' (prepared') list row ≡ count_with bags (prepared) list row
  pub undone : (mark : ℕ) → mark ≤ length log → (list : ℕ) (row : List Value)
      → count_with bags' (drop mark log') list row ≡ count_with bags (drop mark log) list row
  pub longer : length log' + length prepared' ≡ length log + length prepared
  pub older : length log ≤ length log'
  pub types : types_of bags' ≡ types_of bags
  pub feeds : feeds_of bags' ≡ feeds_of bags
  pub size : length bags' ≡ length bags
