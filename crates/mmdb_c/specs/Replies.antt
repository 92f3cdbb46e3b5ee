-- Reading a reply: its rows and their number.
use Rattle.std.specs.Prelude.{◌≡◌, ℕ, ◌+◌, ◌-◌, ◌<◌, ◌≤◌, List, [], Option, Some, None, length, drop, take, slice_get, IfSome}
use Rattle.std.specs.List.{flat_map}
use Rattle.mm_value.specs.declared.values.Value.{Value}
use Rattle.mm_query.specs.declared.reply.Reply.{Reply}
use Rattle.mm_query.specs.declared.reply.Reply.TheVariants.{Done, Count, Rows, Steps, Listing, Refused}
use Rattle.mmdb_c.specs.Cells.{StandFor}
use Rattle.mmdb_c.specs.declared.cell.Cell.{Cell}

-- The rows of a reply: none if it is of another kind.
abbrev pub rows_of : Option Reply → List (List Value)
rows_of None = []
rows_of (Some Done) = []
rows_of (Some (Count n)) = []
rows_of (Some (Rows rows)) = rows
rows_of (Some (Steps steps)) = []
rows_of (Some (Listing listing)) = []
rows_of (Some (Refused refusal)) = []

-- The number of rows that a reply has or counts: 0 if it is of another kind.
abbrev pub count_of : Option Reply → ℕ
count_of None = 0
count_of (Some Done) = 0
count_of (Some (Count n)) = n
count_of (Some (Rows rows)) = length rows
count_of (Some (Steps steps)) = 0
count_of (Some (Listing listing)) = 0
count_of (Some (Refused refusal)) = 0

-- The values of some rows, one row after another.
abbrev pub values_of : List (List Value) → List Value
values_of rows = flat_map (λ row. row) rows

-- The first cells have the values, and the others are unchanged.
pub record StartsWith (values : List Value) (old new : List Cell) : Type 0 where
  pub stand : StandFor (take (length values) new) values
  pub back : drop (length values) new ≡ drop (length values) old

-- Starting at the given row, as many whole rows were copied as there are and as fit into the cells.
pub record ReadsRows (rows : List (List Value)) (first : ℕ) (old new : List Cell) (count : ℕ) : Type 0 where
  pub there : count ≤ length rows - first
  pub read : StartsWith (values_of (take count (drop first rows))) old new
  pub most : IfSome (slice_get rows (first + count)) (λ row. length old < length (values_of (take count (drop first rows))) + length row)
