-- The invariant of a table of a store.
use Rattle.std.specs.Prelude.{◌≤◌, length}
use Rattle.mm_indexed.specs.Kept.{IsKept, StoredRows}
use Rattle.mm_indexed.specs.Twins.{AreApart}
use Rattle.mm_partition.specs.Places.{AreRowsStorable, slot_at}
use Rattle.mm_schema.specs.Rows.{most_rows}

-- A table is not too large, and no two of its rows have one key. Its rows have the types of its columns and values that a program can have,
-- and its indexes are those of its rows.
pub record IsTable (stored : StoredRows) : Type 0 where
  pub few : length stored.refs ≤ most_rows
  pub apart : AreApart stored.key (slot_at stored.places)
  pub kept : IsKept stored.places.types stored.key (slot_at stored.places) stored.refs stored.indexes
  pub storable : AreRowsStorable stored.places
