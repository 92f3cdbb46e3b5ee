-- The INSERT lines of rows that are read one after another.
use Rattle.std.specs.Prelude.{◌≡◌, ◌≤◌, ℕ, ◌++◌, ◌∷◌, List, [], Option, Some, None, drop, length}
use Rattle.mm_value.specs.declared.values.Value.{Value}
use Rattle.mm_dump.specs.Inserts.{line_end, rows_put, used_after_rows}

-- The remaining rows: the one that was read last, if there is one, and those after it.
abbrev pub rows_left : {R : Type 0} → (R → List Value) → Option R → List (List Value) → List (List Value)
rows_left values None rows = []
rows_left values (Some row) rows = values row ∷ rows

-- The text after an open line of this length, to the end of the last line.
abbrev pub line_tail : List ℕ → ℕ → List (List Value) → List ℕ
line_tail table used rows = rows_put table used rows ++ line_end (used_after_rows table used rows)

-- The first `count` rows were taken, and the others remain.
pub record AreTaken (count : ℕ) (rows left : List (List Value)) : Type 0 where
  pub within : count ≤ length rows
  pub left_are : drop count rows ≡ left
