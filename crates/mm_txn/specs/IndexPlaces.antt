-- Positions of indexes.
use Rattle.std.specs.Prelude.{◌<◌, length}
use Rattle.mm_indexed.specs.Kept.{StoredRows}
use Rattle.mm_indexed.specs.Reads.{HasIndex}
use Rattle.mm_store.specs.Tables.{IsAt, Tables}
use Rattle.mm_txn.specs.declared.index_place.IndexPlace.{IndexPlace}

-- The table has the index at its place, on its column.
pub record IsThere (store : Tables) (place : IndexPlace) : Type 0 where
  pub table : place.table < length store.tables
  pub column : (stored : StoredRows) → IsAt store place.table stored → place.column < length stored.places.types
  pub index : (stored : StoredRows) → IsAt store place.table stored → HasIndex stored.indexes place.place place.column place.kind
