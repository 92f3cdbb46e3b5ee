-- The entries of a node.
use Rattle.std.specs.Prelude.{◌≡◌, ℕ, ◌-◌, ◌≤◌, List, length, slice_index_or}
use Rattle.mm_value.specs.declared.row_ref.RowRef.{RowRef}

-- 16 places, of which the first `len` have the entries
pub record IsShort (places : List RowRef) (len : ℕ) : Type 0 where
  pub fits : len ≤ 16
  pub room : length places ≡ 16

-- the entry at a position; past the end, the reference to slot 0
abbrev pub entry_at : List RowRef → ℕ → RowRef
entry_at entries i = slice_index_or entries i (record { slot = 0 })

-- the first entry, the least one if they are sorted
abbrev pub first_entry : List RowRef → RowRef
first_entry entries = entry_at entries 0

-- the last entry, the greatest one if they are sorted
abbrev pub last_entry : List RowRef → RowRef
last_entry entries = entry_at entries (length entries - 1)
