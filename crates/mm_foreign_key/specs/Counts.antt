-- The storage of targets, and the counts of references to each row. No public clause cites this module.
use Rattle.std.specs.Prelude.{◌≡◌, ℕ, ◌<◌, ◌^◌, ◌==◌, Bool, false, List, length, map, Option, Some, None, slice_index_or, count_by, if◌then◌else◌}
use Rattle.mm_value.specs.declared.row_ref.RowRef.{RowRef}
use Rattle.mm_foreign_key.specs.declared.slots.TheConstants.{NONE}

-- the reference that a number means, if it means a slot
abbrev pub entry_of : ℕ → Option RowRef
entry_of number = (if number == NONE then None else Some (record { slot = number }))

-- the entries that numbers mean
abbrev pub entries_of : List ℕ → List (Option RowRef)
entries_of numbers = map entry_of numbers

-- the entry refers to the row in this slot
abbrev pub refers_to : ℕ → Option RowRef → Bool
refers_to place None = false
refers_to place (Some target) = target.slot == place

-- The count of a slot is the number of entries that refer to it, and no entry refers to a slot without a count. Indexes and counts fit 32
-- bits.
pub record IsCounted (targets : List (Option RowRef)) (counts : List ℕ) : Type 0 where
  pub counted : (place : ℕ) → slice_index_or counts place 0 ≡ count_by (refers_to place) targets
  pub referrers : length targets < 2 ^ 32
  pub places : length counts < 2 ^ 32
