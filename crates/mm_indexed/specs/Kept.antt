-- Rows with an index on their key and any other indexes.
use Rattle.std.specs.Prelude.{◌≡◌, ℕ, ◌+◌, ◌<◌, ◌≤◌, ◌↔◌, List, length, All, Contains}
use Rattle.mm_value.specs.declared.col_type.ColType.{ColType}
use Rattle.mm_value.specs.declared.row_ref.RowRef.{RowRef}
use Rattle.mm_value.specs.declared.values.Value.{Value}
use Rattle.mm_partition.specs.Places.{Places, Live}
use Rattle.mm_partition.specs.Types.{HasTypes}
use Rattle.mm_row_order.specs.Refs.{Slots, HasRow}
use Rattle.mm_row_order.specs.InOrder.{InOrder}
use Rattle.mm_indexed.specs.Index.{Keeps, EachTurns, SameIndex, column_of, spare_of}
use Rattle.mm_indexed.specs.declared.indexes.index.Index.{Index}

-- The model: the key, the content of each reference and the types of the columns, the references in the order of the key, the capacity of
-- the index on the key for more entries, and the further indexes.
pub record StoredRows : Type 0 where
  pub key : ℕ
  pub places : Places
  pub refs : List RowRef
  pub spare : ℕ
  pub indexes : List Index

-- Each row in use has the types of the columns, the references are those of the rows in use, in the order of the key, and each index
-- contains them. Two rows may have one key.
pub record IsKept (types : List ColType) (key : ℕ) (now : Slots) (refs : List RowRef) (indexes : List Index) : Type 0 where
  pub key_in : key < length types
  pub columns : All (λ x. column_of x < length types) indexes
  pub typed : (at : RowRef) (row : List Value) → now at ≡ Live row → HasTypes types row
  pub held : (at : RowRef) → Contains refs at ↔ HasRow now at
  pub by_key : InOrder key key now refs
  pub keep : All (Keeps key now refs) indexes

-- the index has the same column and kind, and its capacity decreases by at most n
pub record UsesRoom (n : ℕ) (old new : Index) : Type 0 where
  pub same : SameIndex old new
  pub spare : spare_of old ≤ spare_of new + n

-- The table has the same key, columns and indexes. The capacity of the index on the key decreases by at most n, and that of each further
-- index by at most m.
pub record SameTable (n m : ℕ) (old new : StoredRows) : Type 0 where
  pub key : new.key ≡ old.key
  pub types : new.places.types ≡ old.places.types
  pub spare : old.spare ≤ new.spare + n
  pub indexes : EachTurns (UsesRoom m) old.indexes new.indexes
