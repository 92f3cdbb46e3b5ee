-- Indexes, over the content of each reference.
use Rattle.std.specs.Prelude.{◌≡◌, ℕ, ◌+◌, ◌<◌, ◌≤◌, List, [], ◌∷◌, ◌++◌, length, map, min, IsPermutation, slice_index_or}
use Rattle.mm_value.specs.declared.row_ref.RowRef.{RowRef}
use Rattle.mm_schema.specs.declared.index.IndexKind.{IndexKind}
use Rattle.mm_schema.specs.declared.index.IndexKind.TheVariants as kind
use Rattle.mm_indexed.specs.HashedPairs.{hashed_pair}
use Rattle.mm_row_order.specs.InOrder.{InOrder}
use Rattle.mm_row_order.specs.Refs.{Slots}
use Rattle.mm_indexed.specs.declared.indexes.index.Index.{Index}
use Rattle.mm_indexed.specs.declared.indexes.index.Index.TheVariants.{Tree, Hash}

-- the column of an index
abbrev pub column_of : Index → ℕ
column_of (Tree column refs) = column
column_of (Hash column pairs) = column

-- the kind of an index
abbrev pub kind_of : Index → IndexKind
kind_of (Tree column refs) = kind.Tree
kind_of (Hash column pairs) = kind.Hash

-- the second column by which a TREE index orders rows, which is the key; for a HASH index, its own column
abbrev pub tie_column : ℕ → Index → ℕ
tie_column key (Tree column refs) = key
tie_column key (Hash column pairs) = column

-- the capacity of an index for more entries
abbrev pub spare_of : Index → ℕ
spare_of (Tree column refs) = refs.spare
spare_of (Hash column pairs) = pairs.spare

-- An index contains these references: a TREE index in the order of its column and the key, a HASH index by the hashes in its column.
abbrev pub Keeps : ℕ → Slots → List RowRef → Index → Type 0
Keeps key now held (Tree column refs) = InOrder column key now refs.refs × IsPermutation refs.refs held
Keeps key now held (Hash column pairs) = IsPermutation pairs.entries (map (hashed_pair column now) held)

-- the first i elements have changed, the others not yet
pub record TurnedTo {X : Type 0} (R : X → X → Type 0) (i : ℕ) (start now : List X) : Type 0 where
  pub size : length now ≡ length start
  pub done : (k : ℕ) (d : X) → k < i → k < length start → R (slice_index_or start k d) (slice_index_or now k d)
  pub rest : (k : ℕ) (d : X) → i ≤ k → k < length start → slice_index_or now k d ≡ slice_index_or start k d

-- each element has changed
pub record EachTurns {X : Type 0} (R : X → X → Type 0) (start now : List X) : Type 0 where
  pub size : length now ≡ length start
  pub each : (k : ℕ) (d : X) → k < length start → R (slice_index_or start k d) (slice_index_or now k d)

-- two indexes have the same column and the same entries, whatever their capacity
abbrev pub SameEntries : Index → Index → Type 0
SameEntries (Tree column refs) (Tree other more) = (other ≡ column) × (more.refs ≡ refs.refs)
SameEntries (Tree column refs) (Hash other more) = ⊥
SameEntries (Hash column pairs) (Tree other more) = ⊥
SameEntries (Hash column pairs) (Hash other more) = (other ≡ column) × (more.entries ≡ pairs.entries)

-- an index has the same entries, and at least the same capacity
pub record Grown (old new : Index) : Type 0 where
  pub same : SameEntries old new
  pub spare : spare_of old ≤ spare_of new

-- .. and capacity for at least n more entries
pub record GrownTo (n : ℕ) (old new : Index) : Type 0 where
  pub grown : Grown old new
  pub room : n ≤ spare_of new

-- The capacity is at most n and at most that before, and at most four less than the smaller of the two.
pub record HasTrimmedRoom (n old new : ℕ) : Type 0 where
  pub few : new ≤ n
  pub fewer : new ≤ old
  pub kept : min old n ≤ new + 4

-- The capacity that an index keeps, never more than before: a TREE index about that for n more entries, a HASH index at least that.
abbrev pub KeepsRoom : ℕ → Index → ℕ → Type 0
KeepsRoom n (Tree column refs) spare = HasTrimmedRoom n refs.spare spare
KeepsRoom n (Hash column pairs) spare = (spare ≤ pairs.spare) × (min pairs.spare n ≤ spare)

-- an index has the same entries, and frees capacity beyond that for n more
pub record Trimmed (n : ℕ) (old new : Index) : Type 0 where
  pub same : SameEntries old new
  pub spare : KeepsRoom n old (spare_of new)

-- two indexes have the same column and are of the same kind
abbrev pub SameIndex : Index → Index → Type 0
SameIndex old new = (column_of new ≡ column_of old) × (kind_of new ≡ kind_of old)

-- the index has this column and is of this kind
abbrev pub IsOn : ℕ → IndexKind → Index → Type 0
IsOn column kind x = (column_of x ≡ column) × (kind_of x ≡ kind)

-- the list has one more index at its end, on this column and of this kind
abbrev pub AddsIndex : ℕ → IndexKind → List Index → List Index → Type 0
AddsIndex column kind old new = (x : Index) × (new ≡ old ++ x ∷ []) × IsOn column kind x

-- an index has the same column and kind, no entries, and at least the same capacity
pub record Emptied (old new : Index) : Type 0 where
  pub same : SameIndex old new
  pub empty : (key : ℕ) (now : Slots) → Keeps key now [] new
  pub spare : spare_of old ≤ spare_of new
