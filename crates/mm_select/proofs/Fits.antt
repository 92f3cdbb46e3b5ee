-- References whose rows fit are the fitting combinations of their table.
use Rattle.std.proofs.Common.{◌≡◌, ℕ, Bool, true, false, cond, List, [], ◌∷◌, Some, map, refl, sym, ap, ◌∙◌, subst}
use Rattle.std.specs.List.{All, filter}
use Rattle.std.specs.List.Sorted.{IsPermutation}
use Rattle.std.specs.Option.{option_map_or}
use Rattle.std.proofs.lemmas.List.Concat.{flat_map_single}
use Rattle.std.proofs.lemmas.List.Elements.{All-map, All-weaker}
use Rattle.std.proofs.lemmas.List.Sorted.{IsPermutation-map}
use Rattle.std.proofs.lemmas.Simd.{map-map}
use Rattle.mm_partition.specs.Places.{IsLive, slot_at}
use Rattle.mm_query.specs.Queries.{none_fails}
use Rattle.mm_query.specs.declared.atom.Atom.{Atom}
use Rattle.mm_query.specs.declared.bound_query.FieldPlace.{FieldPlace}
use Rattle.mm_indexed.specs.Kept.{StoredRows}
use Rattle.mm_row_order.specs.Refs.{row_at}
use Rattle.mm_indexed.specs.RowLists.{rows_of}
use Rattle.mm_store.specs.Tables.{IsAt, Tables, rows_at}
use Rattle.mm_templist.specs.Combos.{AreLive, Combos, combo_rows, row_of, rows_of_combo}
use Rattle.mm_value.specs.declared.row_ref.RowRef.{RowRef}
use Rattle.mm_value.specs.declared.values.Value.{Value}
use Rattle.mm_select.specs.Fitting.{AreFitting, fitting}
use Rattle.mm_select.specs.Matches.{matching}

abbrev pub Row : Type 0
Row = List Value

-- Filtering the images is filtering by the test of the image.
pub filter-map : {X Y : Type 0} (p : Y → Bool) (f : X → Y) (xs : List X) → filter p (map f xs) ≡ map f (filter (λ x. p (f x)) xs)
filter-map p f [] = refl
filter-map {X} {Y} p f (x ∷ xs) = by (p (f x)) (filter-map p f xs)
  where
    by : (b : Bool) → filter p (map f xs) ≡ map f (filter (λ x. p (f x)) xs)
        → cond b (f x ∷ filter p (map f xs)) (filter p (map f xs)) ≡ map f (cond b (x ∷ filter (λ x. p (f x)) xs) (filter (λ x. p (f x)) xs))
    by true later = ap (λ l. f x ∷ l) later
    by false later = later

-- The fitting combinations of one list are its rows that fit alone.
fitting_one : (atoms : List (Atom FieldPlace)) (rows : List Row)
    → fitting atoms (rows ∷ []) ≡ map (λ row. row ∷ []) (filter (λ row. none_fails atoms (Some row ∷ [])) rows)
fitting_one atoms rows =
    ap (filter (λ c. none_fails atoms (map Some c))) (flat_map_single (λ (row : Row). row ∷ []) rows)
    ∙ filter-map (λ c. none_fails atoms (map Some c)) (λ (row : Row). row ∷ []) rows

module _ (store : Tables) (table : ℕ) where
  module _ (stored : StoredRows) (here : IsAt store table stored) where
    -- The row of a reference is the row in its slot.
    pub row_here : (at : RowRef) → row_of store table at ≡ row_at (slot_at stored.places) at
    row_here at = ap (λ o. option_map_or (λ (s : StoredRows). row_at (slot_at s.places) at) o []) here

    -- References that read as the rows of the relation read as the rows of the table.
    pub rows_along : (refs : List RowRef) → map (row_at (slot_at stored.places)) refs ≡ rows_of stored
        → map (row_of store table) refs ≡ rows_at store.tables table
    rows_along refs along =
        (λ i. map (λ at. row_here at i) refs) ∙ (along ∙ sym (ap (λ o. option_map_or rows_of o []) here))

    pub live_alone : (at : RowRef) → IsLive stored.places at → AreLive store (table ∷ []) (at ∷ [])
    live_alone at live = ((stored, here, live), tt)

  module _ (list : Combos) (found : List RowRef) (one : list.tables ≡ table ∷ []) (are : list.combos ≡ map (λ at. at ∷ []) found) where
    -- A list of live references is live.
    pub refs_live : (stored : StoredRows) → IsAt store table stored → All (IsLive stored.places) found → All (AreLive store list.tables) list.combos
    refs_live stored here live =
        subst (λ ts. All (AreLive store ts) list.combos) (sym one)
        (subst (All (AreLive store (table ∷ []))) (sym are)
        (All-map (AreLive store (table ∷ [])) (λ (at : RowRef). at ∷ []) found
        (All-weaker (IsLive stored.places) (λ at. AreLive store (table ∷ []) (at ∷ [])) (live_alone stored here) found live)))

    module _ (atoms : List (Atom FieldPlace)) where
      fitting_rows : (refs : List RowRef) → map (row_of store table) refs ≡ rows_at store.tables table
          → map (λ at. row_of store table at ∷ []) (matching store table atoms [] refs) ≡ fitting atoms (rows_at store.tables table ∷ [])
      fitting_rows refs all =
          sym (map-map (λ (row : Row). row ∷ []) (row_of store table) (matching store table atoms [] refs))
          ∙ (ap (map (λ (row : Row). row ∷ [])) (sym (filter-map (λ row. none_fails atoms (Some row ∷ [])) (row_of store table) refs))
          ∙ (sym (fitting_one atoms (map (row_of store table) refs)) ∙ ap (λ rows. fitting atoms (rows ∷ [])) all))

      -- A list of the matching references has the fitting rows.
      pub refs_fit : (refs : List RowRef) → map (row_of store table) refs ≡ rows_at store.tables table
          → IsPermutation found (matching store table atoms [] refs) → AreFitting store atoms list
      refs_fit refs all same =
          let rows : combo_rows store list ≡ map (λ at. row_of store table at ∷ []) found =
          (λ i. map (rows_of_combo store (one i)) (are i)) ∙ map-map (rows_of_combo store (table ∷ [])) (λ (at : RowRef). at ∷ []) found in
          let wanted : map (λ at. row_of store table at ∷ []) (matching store table atoms [] refs) ≡ fitting atoms (map (rows_at store.tables) list.tables) =
          fitting_rows refs all ∙ ap (λ ts. fitting atoms (map (rows_at store.tables) ts)) (sym one) in
          subst (λ l. IsPermutation l (fitting atoms (map (rows_at store.tables) list.tables))) (sym rows)
          (subst (IsPermutation (map (λ at. row_of store table at ∷ []) found)) wanted
          (IsPermutation-map (λ at. row_of store table at ∷ []) found (matching store table atoms [] refs) same))
