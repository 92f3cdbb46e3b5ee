-- Copying a row into cells.
use Rattle.std.specs.Prelude.{◌≡◌, ℕ, ◌+◌, List, length, drop, take}
use Rattle.mm_value.specs.declared.values.Value.{Value}
use Rattle.mmdb_c.specs.Cells.{StandFor}
use Rattle.mmdb_c.specs.declared.cell.Cell.{Cell}

-- Starting at a place, the cells have the values, and all other cells are unchanged.
pub record WritesCells (place : ℕ) (values : List Value) (old new : List Cell) : Type 0 where
  pub front : take place new ≡ take place old
  pub stand : StandFor (take (length values) (drop place new)) values
  pub back : drop (place + length values) new ≡ drop (place + length values) old
