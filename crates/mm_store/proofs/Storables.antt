-- Rows have values that a program can have.
use Rattle.std.proofs.lemmas.List.Elements.{All-nil}
use Rattle.mm_partition.specs.Places.{AreRowsStorable, Content, Free, Hidden, IsStorableIn, Live, Places, row_in, slot_at}
use Rattle.mm_row_order.specs.Refs.{row_at}
use Rattle.mm_value.specs.Storable.{AreStorable, IsStorable}
use Rattle.mm_value.specs.declared.row_ref.RowRef.{RowRef}

in_storable : (content : Content) → IsStorableIn content → AreStorable (row_in content)
in_storable Free _ = All-nil IsStorable
in_storable (Live row) all = all
in_storable (Hidden row) all = all

-- So has the row of each reference, which is empty if the slot is free.
pub row_storable : (places : Places) (at : RowRef) → AreRowsStorable places → AreStorable (row_at (slot_at places) at)
row_storable places at each = in_storable (slot_at places at) (each at)
