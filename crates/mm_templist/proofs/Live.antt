-- The rows of a live combination, reference by reference.
use Rattle.std.proofs.Common.{◌≡◌, ℕ, zero, suc, ◌+◌, ◌<◌, List, [], ◌∷◌, ◌++◌, Some, get_or, length, map, take, refl, sym, ap, ◌∙◌, subst, arith}
use Rattle.std.specs.Option.{option_map, option_map_or, unwrap_or}
use Rattle.std.specs.Prelude.{slice_get}
use Rattle.std.proofs.lemmas.List.{map_push, take_more}
use Rattle.std.proofs.lemmas.Option.{get_or_from_slice_get, slice_get-map, slice_get_within}
use Rattle.mm_value.specs.declared.row_ref.RowRef.{RowRef}
use Rattle.mm_value.specs.declared.values.Value.{Value}
use Rattle.mm_partition.specs.Places.{IsLive, Live, slot_at, row_in}
use Rattle.mm_indexed.specs.Kept.{StoredRows}
use Rattle.mm_row_order.specs.Refs.{row_at}
use Rattle.mm_store.specs.Tables.{IsAt, Tables}
use Rattle.mm_query.specs.Queries.{Partial, values_of}
use Rattle.mm_query.specs.declared.bound_query.FieldPlace.{FieldPlace}
use Rattle.mm_templist.specs.Combos.{AreLive, Combos, combo_rows, row_of, rows_of_combo}
use Rattle.mm_templist.specs.Results.{projected_rows}

-- The reference is to a live row of the table at a position.
abbrev pub IsThere : Tables → ℕ → RowRef → Type 0
IsThere store table at = (stored : StoredRows) × IsAt store table stored × IsLive stored.places at

module _ (store : Tables) where
  pub length_live : (tables : List ℕ) (refs : List RowRef) → AreLive store tables refs → length refs ≡ length tables
  length_live [] [] live = refl
  length_live [] (at ∷ refs) live = absurd live
  length_live (table ∷ tables) [] live = absurd live
  length_live (table ∷ tables) (at ∷ refs) live = ap suc (length_live tables refs live.1)

  pub there_at : (tables : List ℕ) (refs : List RowRef) (k d : ℕ) (e : RowRef) → AreLive store tables refs → k < length tables
      → IsThere store (get_or tables k d) (get_or refs k e)
  there_at [] refs k d e live within = absurd (omega (arith, within))
  there_at (table ∷ tables) [] k d e live within = absurd live
  there_at (table ∷ tables) (at ∷ refs) zero d e live within = live.0
  there_at (table ∷ tables) (at ∷ refs) (suc k) d e live within = there_at tables refs k d e live.1 (omega (arith, within))

  pub row_in_place : (tables : List ℕ) (refs : List RowRef) (k d : ℕ) (e : RowRef) → AreLive store tables refs → k < length tables
      → slice_get (rows_of_combo store tables refs) k ≡ Some (row_of store (get_or tables k d) (get_or refs k e))
  row_in_place [] refs k d e live within = absurd (omega (arith, within))
  row_in_place (table ∷ tables) [] k d e live within = absurd live
  row_in_place (table ∷ tables) (at ∷ refs) zero d e live within = refl
  row_in_place (table ∷ tables) (at ∷ refs) (suc k) d e live within = row_in_place tables refs k d e live.1 (omega (arith, within))

  -- A combination has as many rows as tables.
  pub length_rows : (tables : List ℕ) (refs : List RowRef) → AreLive store tables refs → length (rows_of_combo store tables refs) ≡ length tables
  length_rows [] refs live = refl
  length_rows (table ∷ tables) [] live = absurd live
  length_rows (table ∷ tables) (at ∷ refs) live = ap suc (length_rows tables refs live.1)

  -- The table of a live row exists.
  pub table_is_there : (table : ℕ) (at : RowRef) → IsThere store table at → table < length store.tables
  table_is_there table at there = slice_get_within store.tables table there.0 there.1

  pub row_is_live : (table : ℕ) (at : RowRef) → IsThere store table at → (stored : StoredRows) → IsAt store table stored → IsLive stored.places at
  row_is_live table at there stored is =
      let one : there.0 ≡ stored = ap (λ o. unwrap_or o stored) (sym there.1 ∙ is) in
      subst (λ (s : StoredRows). IsLive s.places at) one there.2

  -- The row that is found is the row of the reference.
  pub row_is_found : (table : ℕ) (at : RowRef) (row : List Value) → IsThere store table at
      → ((stored : StoredRows) → IsAt store table stored → slot_at stored.places at ≡ Live row) → row_of store table at ≡ row
  row_is_found table at row there found =
      ap (λ o. option_map_or (λ stored. row_at (slot_at stored.places) at) o []) there.1 ∙ ap row_in (found there.0 there.1)

-- One more element.
pub next_of : {X : Type 0} (xs : List X) (k : ℕ) (x : X) → slice_get xs k ≡ Some x → take (k + 1) xs ≡ take k xs ++ x ∷ []
next_of xs k x is = take_more xs k x (slice_get_within xs k x is) ∙ ap (λ y. take k xs ++ y ∷ []) (get_or_from_slice_get xs k x x is)

-- One more row.
pub next_row : (rows : List (List Value)) (k : ℕ) (row : List Value) → slice_get rows k ≡ Some row
    → map Some (take (k + 1) rows) ≡ map Some (take k rows) ++ Some row ∷ []
next_row rows k row is = ap (map Some) (next_of rows k row is) ∙ map_push Some (take k rows) row

-- One more row of the result.
pub next_projected : (store : Tables) (list : Combos) (k : ℕ) (combo : List RowRef) → slice_get list.combos k ≡ Some combo
    → take (k + 1) (projected_rows store list)
    ≡ take k (projected_rows store list) ++ values_of list.fields (map Some (rows_of_combo store list.tables combo)) ∷ []
next_projected store list k combo is =
    let shown = λ (rows : List (List Value)). values_of list.fields (map Some rows) in
    next_of (projected_rows store list) k (shown (rows_of_combo store list.tables combo))
    (slice_get-map shown (combo_rows store list) k
    ∙ (ap (option_map shown) (slice_get-map (rows_of_combo store list.tables) list.combos k)
    ∙ ap (λ o. option_map shown (option_map (rows_of_combo store list.tables) o)) is))

-- There is a value for each field.
pub values_are_as_many : (fields : List FieldPlace) (rows : Partial) → length (values_of fields rows) ≡ length fields
values_are_as_many [] rows = refl
values_are_as_many (field ∷ fields) rows = ap suc (values_are_as_many fields rows)
