-- The tables of the tests.
use Rattle.std.specs.Prelude.{◌≡◌, ℕ, List, [], ◌∷◌, map}
use Rattle.mm_value.specs.declared.col_type.ColType.{ColType}
use Rattle.mm_value.specs.declared.col_type.ColType.TheVariants.{Int}
use Rattle.mm_tables.specs.Tables.{Shape, Stored, shape_of}

-- the types and the key of a table
pub record Heading : Type 0 where
  pub types : List ColType
  pub key : ℕ

abbrev pub heading_of : Shape → Heading
heading_of s = record { types = s.types; key = s.key }

-- two numbers, the first of which is the key
abbrev pub numbers : Heading
numbers = record { types = Int ∷ Int ∷ []; key = 0 }

-- there are two tables of two numbers
abbrev pub AreSample : Stored → Type 0
AreSample s = map heading_of (map shape_of s.tables) ≡ numbers ∷ numbers ∷ []
