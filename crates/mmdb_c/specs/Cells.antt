-- The values of cells.
use Rattle.std.specs.Prelude.{◌≡◌, ℕ, ◌+◌, ◌<◌, List, [], ◌∷◌, length, take}
use Rattle.mm_value.specs.Text.{IsText}
use Rattle.mm_value.specs.declared.values.Value.{Value}
use Rattle.mm_value.specs.declared.values.Value.TheVariants.{Int, Text}
use Rattle.mmdb_c.specs.declared.cell.Cell.{Cell}

-- The value of a cell: its number if it has kind 0, and the text in its first bytes if it has kind 1.
abbrev pub StandsFor : Cell → Value → Type 0
StandsFor cell (Int number) = (cell.kind ≡ 0) × (cell.number ≡ number)
StandsFor cell (Text text) = (cell.kind ≡ 1) × (cell.len ≡ length text) × (take (length text) cell.text ≡ text) × IsText text

-- A value whose copy allocates: a text of more than 16 bytes.
abbrev pub NeedsMemory : Value → Type 0
NeedsMemory (Int number) = ⊥
NeedsMemory (Text text) = 16 < length text

-- There are as many cells as values, and each cell has the value at its place.
abbrev pub StandFor : List Cell → List Value → Type 0
StandFor [] [] = Unit {0}
StandFor [] (value ∷ values) = ⊥
StandFor (cell ∷ cells) [] = ⊥
StandFor (cell ∷ cells) (value ∷ values) = StandsFor cell value × StandFor cells values

-- The cell at a place and all cells before it have values.
abbrev pub StandUpTo : ℕ → List Cell → Type 0
StandUpTo place cells = (place < length cells) × ((values : List Value) × StandFor (take (place + 1) cells) values)
