-- Hiding all rows of a table at once.
use Rattle.std.specs.Prelude.{◌≡◌}
use Rattle.mm_value.specs.declared.row_ref.RowRef.{RowRef}
use Rattle.mm_partition.specs.Places.{Content, Places, Free, Live, Hidden, slot_at}

-- the slot, with its row hidden if it has one
abbrev pub out_of_use : Content → Content
out_of_use Free = Free
out_of_use (Live row) = Hidden row
out_of_use (Hidden row) = Hidden row

-- each row in use is hidden, and every other slot is as before
abbrev pub HidesAll : Places → Places → Type 0
HidesAll old new = (at : RowRef) → slot_at new at ≡ out_of_use (slot_at old at)
