-- The cells of the slots, column by column.
use Rattle.std.specs.Prelude.{◌≡◌, ◌≢◌, ℕ, ◌+◌, ◌≤◌, List, [], length, map, slice_index_or}
use Rattle.std.specs.Vec.{vec_capacity}
use Rattle.std.proofs.Math.IntN.{pos}
use Rattle.mm_value.specs.declared.col_type.ColType.{ColType}
use Rattle.mm_value.specs.declared.col_type.ColType.TheVariants as type
use Rattle.mm_value.specs.declared.values.Value.{Value}
use Rattle.mm_value.specs.declared.values.Value.TheVariants as value
use Rattle.mm_partition.specs.declared.columns.Column.{Column}
use Rattle.mm_partition.specs.declared.columns.Column.TheVariants.{Numbers, Texts}

-- the type of the values
abbrev pub type_in : Column → ColType
type_in (Numbers numbers) = type.Int
type_in (Texts column) = type.Text

-- the number of cells
abbrev pub size_of : Column → ℕ
size_of (Numbers numbers) = length numbers.items
size_of (Texts column) = length column.texts

-- the number of cells that fit the capacity
abbrev pub room_of : Column → ℕ
room_of (Numbers numbers) = vec_capacity numbers
room_of (Texts column) = column.room

-- the value in a cell: 0 or the empty text past the end
abbrev pub cell : Column → ℕ → Value
cell (Numbers numbers) i = value.Int (slice_index_or numbers.items i (pos 0))
cell (Texts column) i = value.Text (slice_index_or column.texts i [])

-- this cell has this value now, and every other cell is unchanged
pub record Writes (old new : Column) (i : ℕ) (v : Value) : Type 0 where
  pub here : cell new i ≡ v
  pub others : (k : ℕ) → k ≢ i → cell new k ≡ cell old k

-- the values of two cells are exchanged, and every other cell is unchanged
pub record Exchanges (old new : Column) (a b : ℕ) : Type 0 where
  pub first : cell new a ≡ cell old b
  pub second : cell new b ≡ cell old a
  pub others : (k : ℕ) → k ≢ a → k ≢ b → cell new k ≡ cell old k

-- if the cell is one of texts, it has the empty text
abbrev pub IsEmptied : Column → ℕ → Type 0
IsEmptied (Numbers numbers) i = Unit {0}
IsEmptied (Texts column) i = cell (Texts column) i ≡ value.Text []

-- the types of the columns
abbrev pub types_of : List Column → List ColType
types_of columns = map type_in columns

-- the values in one slot
abbrev pub row_of : List Column → ℕ → List Value
row_of columns i = map (λ c. cell c i) columns

-- the values of two slots are exchanged, and every other slot is unchanged
pub record RowsExchanged (old new : List Column) (a b : ℕ) : Type 0 where
  pub first : row_of new a ≡ row_of old b
  pub second : row_of new b ≡ row_of old a
  pub others : (k : ℕ) → k ≢ a → k ≢ b → row_of new k ≡ row_of old k

-- a column has a cell for each slot, and capacity for more
pub record Fits (slots spare : ℕ) (column : Column) : Type 0 where
  pub size : size_of column ≡ slots
  pub room : slots + spare ≤ room_of column
