-- Temporary lists: combinations of references, and their rows.
use Rattle.std.specs.Prelude.{ℕ, List, [], ◌∷◌, map, slice_get}
use Rattle.std.specs.Option.{option_map_or}
use Rattle.mm_value.specs.declared.row_ref.RowRef.{RowRef}
use Rattle.mm_value.specs.declared.values.Value.{Value}
use Rattle.mm_query.specs.declared.bound_query.FieldPlace.{FieldPlace}
use Rattle.mm_partition.specs.Places.{IsLive, slot_at}
use Rattle.mm_indexed.specs.Kept.{StoredRows}
use Rattle.mm_row_order.specs.Refs.{row_at}
use Rattle.mm_store.specs.Tables.{IsAt, Tables}

-- A temporary list: the positions in the store of the tables whose rows are combined, the fields of the result, and the combinations.
pub record Combos : Type 0 where
  pub tables : List ℕ
  pub fields : List FieldPlace
  pub combos : List (List RowRef)

-- The row of a reference in the table at a position, and no values if there is no such table.
abbrev pub row_of : Tables → ℕ → RowRef → List Value
row_of store table at = option_map_or (λ stored. row_at (slot_at stored.places) at) (slice_get store.tables table) []

-- The rows of a combination, one from each table.
abbrev pub rows_of_combo : Tables → List ℕ → List RowRef → List (List Value)
rows_of_combo store [] refs = []
rows_of_combo store (table ∷ tables) [] = []
rows_of_combo store (table ∷ tables) (at ∷ refs) = row_of store table at ∷ rows_of_combo store tables refs

-- A combination has a reference to a live row of each table.
abbrev pub AreLive : Tables → List ℕ → List RowRef → Type 0
AreLive store [] [] = Unit {0}
AreLive store [] (at ∷ refs) = ⊥
AreLive store (table ∷ tables) [] = ⊥
AreLive store (table ∷ tables) (at ∷ refs) = ((stored : StoredRows) × IsAt store table stored × IsLive stored.places at) × AreLive store tables refs

-- The rows of all combinations.
abbrev pub combo_rows : Tables → Combos → List (List (List Value))
combo_rows store list = map (rows_of_combo store list.tables) list.combos
