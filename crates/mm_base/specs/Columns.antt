-- The columns that refer to tables.
use Rattle.std.specs.Prelude.{◌≡◌, ℕ, ◌<◌, ◌==◌, ◌&&◌, not, Bool, Contains, List}
use Rattle.mm_schema.specs.declared.reference.Reference.{Reference}

-- The column of a table refers to another table, and to no other one.
abbrev pub IsReference : List Reference → ℕ → ℕ → ℕ → Type 0
IsReference references from column to = Contains references (record { from = from; column = column; to = to })
    × ((other : ℕ) → Contains references (record { from = from; column = column; to = other }) → other ≡ to)

-- Two references are of one column.
abbrev pub same_column : Reference → Reference → Bool
same_column a b = (a.from == b.from) && (a.column == b.column)

-- Two references are of one column and to one table.
abbrev pub same_reference : Reference → Reference → Bool
same_reference a b = same_column a b && (a.to == b.to)

-- Two references are of one column and to different tables.
abbrev pub differs_in_target : Reference → Reference → Bool
differs_in_target a b = same_column a b && not (a.to == b.to)

-- The reference is of a column of the table at a place, which has `width` columns, to a table before it.
pub record IsFrom (place width : ℕ) (reference : Reference) : Type 0 where
  pub from : reference.from ≡ place
  pub column : reference.column < width
  pub to : reference.to < place
