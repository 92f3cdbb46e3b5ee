-- The tables of the tests.
use Rattle.std.specs.Prelude.{◌≡◌, ℕ, List, [], ◌∷◌, length, All, Contains}
use Rattle.mm_indexed.specs.Kept.{StoredRows}
use Rattle.mm_store.specs.Marks.{IsMark}
use Rattle.mm_store.specs.Tables.{Tables}
use Rattle.mm_value.specs.declared.col_type.ColType.{ColType}
use Rattle.mm_value.specs.declared.col_type.ColType.TheVariants.{Int}

-- The types of the two columns of each table.
abbrev pub plain_types : List ColType
plain_types = Int ∷ Int ∷ []

-- The table has these columns.
pub record IsPlain (stored : StoredRows) : Type 0 where
  pub types : stored.places.types ≡ plain_types

-- Each table of the store has these columns.
abbrev pub ArePlain : Tables → Type 0
ArePlain store = All IsPlain store.tables

-- There are two such tables, the second refers to the first by its second column, and the log can be undone, completely and to a mark.
pub record IsCase (store : Tables) (commands : ℕ) : Type 0 where
  pub two : length store.tables ≡ 2
  pub plain : ArePlain store
  pub link : Contains store.links (record { from = 1; column = 1; to = 0 })
  pub start : IsMark store 0
  pub mark : IsMark store commands
