-- The division of rows into INSERT lines: a row joins the open line if it fits there, and begins a line otherwise.
use Rattle.std.specs.Prelude.{ℕ, ◌+◌, ◌&&◌, Bool, if◌then◌else◌, List, [], ◌∷◌, ◌++◌, codes, length, min, nat_le, nat_lt}
use Rattle.mm_value.specs.Written.{row_text}
use Rattle.mm_value.specs.declared.values.Value.{Value}
use Rattle.mm_dump.specs.Texts.{insert_text}
use Rattle.mm_dump.specs.declared.insert_lines.InsertLines.{InsertLines}

-- The table of INSERT lines.
abbrev pub table_of : InsertLines → List ℕ
table_of lines = lines.table

-- The number of bytes of the open line, 0 if no line is open and 4,097 if the line is longer than 4,096 bytes.
abbrev pub used_bytes : InsertLines → ℕ
used_bytes lines = lines.line

-- A line of this length is open (0 if no line is open), and the row fits into it.
abbrev pub has_room : ℕ → List Value → Bool
has_room used row = nat_lt 0 used && nat_le (used + length (row_text row) + 2) 4096

-- The end of the open line, if a line is open.
abbrev pub line_end : ℕ → List ℕ
line_end used = if nat_lt 0 used then 10 ∷ [] else []

-- The text of a row that is added to an open line of this length.
abbrev pub put_text : List ℕ → ℕ → List Value → List ℕ
put_text table used row = if has_room used row then codes ", " ++ row_text row else line_end used ++ insert_text table (row ∷ [])

-- The length of the open line after that; a line that is longer than 4,096 bytes counts as 4,097.
abbrev pub used_after : List ℕ → ℕ → List Value → ℕ
used_after table used row =
    if has_room used row then used + length (row_text row) + 2 else min (length (insert_text table (row ∷ []))) 4097

-- The text of rows that are added one after another.
abbrev pub rows_put : List ℕ → ℕ → List (List Value) → List ℕ
rows_put table used [] = []
rows_put table used (row ∷ rows) = put_text table used row ++ rows_put table (used_after table used row) rows

-- The length of the open line after rows.
abbrev pub used_after_rows : List ℕ → ℕ → List (List Value) → ℕ
used_after_rows table used [] = used
used_after_rows table used (row ∷ rows) = used_after_rows table (used_after table used row) rows

-- The text of all rows of a table, to the end of the last line.
abbrev pub put_texts : List ℕ → List (List Value) → List ℕ
put_texts table rows = rows_put table 0 rows ++ line_end (used_after_rows table 0 rows)
