-- Access methods for the rows of a table that may match a combination.
use Rattle.std.specs.Prelude.{◌≡◌, ◌==◌, ℕ, ◌+◌, ◌<◌, ◌≤◌, Bool, List, Some, All, IsPermutation, length, map, slice_index}
use Rattle.std.specs.List.{count_by}
use Rattle.std.specs.Ordering.{is_eq}
use Rattle.mm_partition.specs.Places.{IsLive, slot_at}
use Rattle.mm_query.specs.Atoms.{value_in}
use Rattle.mm_query.specs.declared.atom.Atom.{Atom}
use Rattle.mm_query.specs.declared.bound_query.FieldPlace.{FieldPlace}
use Rattle.mm_indexed.specs.Kept.{StoredRows}
use Rattle.mm_row_order.specs.Refs.{Slots, row_at}
use Rattle.mm_indexed.specs.RowLists.{rows_of}
use Rattle.mm_select.specs.Matches.{Covers}
use Rattle.mm_base.specs.Columns.{IsReference}
use Rattle.mm_store.specs.Looked.{IsIndexOn}
use Rattle.mm_store.specs.Tables.{IsAt, Tables}
use Rattle.mm_value.specs.Hash.{value_hash}
use Rattle.mm_value.specs.Order.{value_cmp}
use Rattle.mm_value.specs.Prefix.{order_prefix}
use Rattle.mm_value.specs.declared.row_ref.RowRef.{RowRef}
use Rattle.mm_value.specs.declared.values.Value.{Value}
use Rattle.mm_join.specs.Entries.{entry_of}
use Rattle.mm_join.specs.Equated.{HaveMatches, IsJoin, plain_key, sought}
use Rattle.mm_join.specs.Reads.{any_row}
use Rattle.mm_join.specs.declared.inner.Inner.{Inner}
use Rattle.mm_join.specs.declared.join.Join.{Join}
use Rattle.mm_join.specs.declared.look_up.Among.{Among}
use Rattle.mm_join.specs.declared.look_up.Among.TheVariants as among
use Rattle.mm_join.specs.declared.access_methods.AccessMethod.{AccessMethod}
use Rattle.mm_join.specs.declared.access_methods.AccessMethod.TheVariants as method

-- ---- structures for look-ups by value

-- The entry of a row in a hash table over a column: the hash of its value there, and its reference.
abbrev pub hashed_row : ℕ → Slots → RowRef → ℕ × RowRef
hashed_row column now at = (value_hash (value_in column (row_at now at)), at)

-- The structure finds rows by their values in the column, and contains all rows.
abbrev pub IsAmong : StoredRows → ℕ → Among → Type 0
IsAmong stored column (among.Index index) = IsIndexOn stored column index
IsAmong stored column (among.Built pairs) = IsPermutation pairs.entries (map (hashed_row column (slot_at stored.places)) stored.refs)
IsAmong stored column (among.Walk cursor) = (walk : List RowRef) × IsPermutation walk stored.refs
    × (cursor ≡ map (entry_of column (slot_at stored.places)) walk)

-- The structure may return a row with the second value when the first is looked up.
abbrev pub may_be : Among → Value → Value → Bool
may_be (among.Index index) value own = is_eq (value_cmp own value)
may_be (among.Built pairs) value own = value_hash own == value_hash value
may_be (among.Walk cursor) value own = order_prefix own == order_prefix value

-- All rows of the table with the value in the column are found, and no more rows than the structure may return.
pub record Finds (stored : StoredRows) (column : ℕ) (from : Among) (value : Value) (found : List RowRef) : Type 0 where
  pub matches : HaveMatches column (slot_at stored.places) value stored.refs found
  pub few : length found ≤ count_by (λ row. may_be from value (value_in column row)) (rows_of stored)

-- ---- access methods

-- The inner side of a join, where the further table is at a position.
abbrev pub inner_of : Join → ℕ → Inner
inner_of join table = record { table = table; atoms = join.atoms; cap = join.cap }

-- The access method finds rows of the further table that include all matches.
abbrev pub IsAccessMethod : Tables → List ℕ → Inner → AccessMethod → Type 0
IsAccessMethod store outers inner (method.All refs) = (stored : StoredRows) → IsAt store inner.table stored → IsPermutation refs.items stored.refs
IsAccessMethod store outers inner (method.Followed field) = (stored : StoredRows) → IsAt store inner.table stored
    → (field.place < length outers) × IsReference store.links (slice_index outers field.place) field.column inner.table
    × IsJoin inner.atoms.now outers (plain_key stored.key field)
IsAccessMethod store outers inner (method.Sought look_up) = IsJoin inner.atoms.now outers look_up.key
    × ((stored : StoredRows) → IsAt store inner.table stored → IsAmong stored look_up.key.column look_up.among)

-- The most rows of the further table that the access method finds for a combination.
abbrev pub found_behind : AccessMethod → List (List Value) → List (List Value) → ℕ
found_behind (method.All refs) rows combination = count_by (any_row (map Some combination)) rows
found_behind (method.Followed field) rows combination = 1
found_behind (method.Sought look_up) rows combination =
    count_by (λ row. may_be look_up.among (sought look_up.key (map Some combination)) (value_in look_up.key.column row)) rows

-- The references that the access method found, or those of all rows if it always returns all.
abbrev pub listed : AccessMethod → List RowRef → List RowRef
listed (method.All refs) found = refs.items
listed (method.Followed field) found = found
listed (method.Sought look_up) found = found

-- A count of reads, with one more for the prefix of a value that is looked up along a walk.
abbrev pub and_prefix : Among → ℕ → ℕ
and_prefix (among.Index index) reads = reads
and_prefix (among.Built pairs) reads = reads
and_prefix (among.Walk cursor) reads = 1 + reads

-- A count of reads, with the prefix that the access method may read for a combination.
abbrev pub with_prefix : AccessMethod → ℕ → ℕ
with_prefix (method.All refs) reads = reads
with_prefix (method.Followed field) reads = reads
with_prefix (method.Sought look_up) reads = and_prefix look_up.among reads

-- The most rows that a join by the access method reads for a combination: the combination's own rows, and those that are found.
abbrev pub reads_along : AccessMethod → List (List Value) → List (List Value) → ℕ
reads_along method rows combination = with_prefix method (length combination + found_behind method rows combination)

-- References of rows of a table that include those of all rows that fit with a combination, at most this many.
pub record AreCandidates (store : Tables) (table : ℕ) (atoms : List (Atom FieldPlace)) (combination : List (List Value)) (most : ℕ)
    (candidates : List RowRef) : Type 0 where
  pub live : (stored : StoredRows) → IsAt store table stored → All (IsLive stored.places) candidates
  pub cover : Covers store table atoms (map Some combination) candidates
  pub few : length candidates ≤ most
