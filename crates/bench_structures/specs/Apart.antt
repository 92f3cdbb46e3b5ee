-- References that differ.
use Rattle.std.specs.Prelude.{◌≢◌, ℕ, ◌<◌, List, length, slice_index_or}
use Rattle.mm_value.specs.declared.row_ref.RowRef.{RowRef}

-- no reference occurs twice
abbrev pub AreApart : List RowRef → Type 0
AreApart refs = (j k : ℕ) (d : RowRef) → j < k → k < length refs → slice_index_or refs j d ≢ slice_index_or refs k d
