-- Columns as arrays of values, and their rows.
use Rattle.std.specs.Prelude.{◌≡◌, ◌⊎◌, ◌==◌, ◌+◌, ◌≤◌, if◌then◌else◌, ℕ, ℤ, pos, All, List, [], ◌∷◌, Result, Ok, Err, length, map, nat_lt}
use Rattle.std.specs.Prelude.{slice_index, slice_index_or, slice_range}
use Rattle.std.specs.List.{list_any, range_with_len}
use Rattle.std.specs.List.Sorted.{IsNonDecreasing}
use Rattle.mm_value.specs.declared.refusal.Refusal.{Refusal}
use Rattle.mm_value.specs.declared.refusal.Refusal.TheVariants.{Syntax, TextTooLong}
use Rattle.mm_value.specs.declared.values.Value.{Value}
use Rattle.mm_value.specs.declared.values.Value.TheVariants.{Int, Text}
use Rattle.mm_session.specs.declared.column_array.ColumnArray.{ColumnArray}

-- The offsets of texts in an array of this many bytes: they never decrease, and lie within it.
pub record AreOffsets (bytes : ℕ) (offsets : List ℕ) : Type 0 where
  pub rise : IsNonDecreasing offsets
  pub within : All (λ offset. offset ≤ bytes) offsets

-- The number of values: of numbers if there are no offsets, and otherwise of pairs of adjacent offsets.
abbrev pub count_of : List ℤ → List ℕ → ℕ
count_of numbers [] = length numbers
count_of numbers (first ∷ offsets) = length offsets

abbrev pub value_count : ColumnArray → ℕ
value_count column = count_of column.numbers.now column.offsets.now

-- The arrays are a column of this many values.
pub record IsColumn (count : ℕ) (column : ColumnArray) : Type 0 where
  pub counted : value_count column ≡ count
  pub numbers_or_texts : (column.offsets.now ≡ []) ⊎ ((column.numbers.now ≡ []) × AreOffsets (length column.bytes.now) column.offsets.now)

-- The number of rows of columns: that of the values of the first one.
abbrev pub row_count : List ColumnArray → ℕ
row_count [] = 0
row_count (column ∷ columns) = value_count column

-- The arrays are columns of as many values each.
abbrev pub AreColumns : List ColumnArray → Type 0
AreColumns columns = All (IsColumn (row_count columns)) columns

-- The text of these bytes, or the refusal of bytes that are no text.
abbrev pub text_read : List ℕ → Result Value Refusal
text_read bytes = if nat_lt 64 (length bytes) then Err TextTooLong else (if list_any (λ byte. byte == 10) bytes then Err Syntax else Ok (Text bytes))

abbrev pub value_of : List ℤ → List ℕ → List ℕ → ℕ → Result Value Refusal
value_of numbers [] bytes at = Ok (Int (slice_index_or numbers at (pos 0)))
value_of numbers (first ∷ offsets) bytes at = text_read (slice_range bytes (slice_index (first ∷ offsets) at) (slice_index (first ∷ offsets) (at + 1)))

-- The value of a column at an index, or its refusal.
abbrev pub value_at : ColumnArray → ℕ → Result Value Refusal
value_at column at = value_of column.numbers.now column.offsets.now column.bytes.now at

-- A list with an item before it, if both are there.
abbrev pub joined : {T : Type 0} → Result T Refusal → Result (List T) Refusal → Result (List T) Refusal
joined (Err refusal) items = Err refusal
joined (Ok item) (Err refusal) = Err refusal
joined (Ok item) (Ok items) = Ok (item ∷ items)

-- All items, or the first refusal.
abbrev pub all_of : {T : Type 0} → List (Result T Refusal) → Result (List T) Refusal
all_of [] = Ok []
all_of (item ∷ items) = joined item (all_of items)

-- The row of columns at an index, or the refusal of its first value that is refused.
abbrev pub row_at : List ColumnArray → ℕ → Result (List Value) Refusal
row_at columns at = all_of (map (λ column. value_at column at) columns)

-- The rows of columns, or the refusal of the first row that is refused.
abbrev pub rows_in : List ColumnArray → Result (List (List Value)) Refusal
rows_in columns = all_of (map (row_at columns) (range_with_len 0 (row_count columns)))
