-- Multisets of which few rows are in a list, and more are found by hash.
use Rattle.std.specs.Prelude.{ℕ, ℤ, pos, neg_ℤ, negsuc, ◌+ℤ◌, ◌<ℤ◌, ◌^◌, ◌==◌, Bool, true, false, if◌then◌else◌, List, [], ◌∷◌, All, map}
use Rattle.std.specs.List.{IsDistinct}
use Rattle.mm_value.specs.Equality.{same_row}
use Rattle.mm_value.specs.declared.values.Value.{Value}
use Rattle.mm_multiset.specs.Counts.{Entries}
use Rattle.mm_multiset.specs.declared.signed.Signed.{Signed}

-- A multiset as counts.
pub record Tallied : Type 0 where
  pub entries : Entries

-- Rows by hash: their entries, and the number of new ones that fit the capacity.
pub record CountedRows : Type 0 where
  pub entries : Entries
  pub room : ℕ

-- The number if it is not negative, and otherwise 0.
abbrev pub count_from : ℤ → ℕ
count_from (pos n) = n
count_from (negsuc n) = 0

-- Changes as the entries of a multiset.
abbrev pub listed : List Signed → Entries
listed changes = map (λ (change : Signed). (change.row, count_from change.count)) changes

-- The rows of changes.
abbrev pub rows_changed : List Signed → List (List Value)
rows_changed changes = map (λ (change : Signed). change.row) changes

-- The number is between -2^64 and 2^64.
abbrev pub IsSmall : ℤ → Type 0
IsSmall z = (neg_ℤ (pos (2 ^ 64)) <ℤ z) × (z <ℤ pos (2 ^ 64))

-- Each row is changed at most once, by a number between -2^64 and 2^64, which may be 0.
pub record AreOnce (changes : List Signed) : Type 0 where
  pub once : IsDistinct same_row (rows_changed changes)
  pub small : All (λ (change : Signed). IsSmall change.count) changes

-- The changes are counts of at least 1, one for each row.
pub record AreListed (changes : List Signed) : Type 0 where
  pub are : AreOnce changes
  pub some : All (λ (change : Signed). pos 0 <ℤ change.count) changes

-- The changes with a change added to that of its row, or appended if the row has none.
abbrev pub with_change : Signed → List Signed → List Signed
with_change change [] = change ∷ []
with_change change (known ∷ rest) =
    if same_row change.row known.row then record { row = known.row; count = known.count +ℤ change.count } ∷ rest else known ∷ with_change change rest

-- The negated change.
abbrev pub opposite : Signed → Signed
opposite change = record { row = change.row; count = neg_ℤ change.count }

-- The number is not 0.
abbrev pub is_some_change : ℤ → Bool
is_some_change (pos n) = if n == 0 then false else true
is_some_change (negsuc n) = true
