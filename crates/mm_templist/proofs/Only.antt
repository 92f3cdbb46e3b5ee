-- The result of a single combination is one row.
use Rattle.std.proofs.Common.{◌≡◌, ◌≤◌, ℕ, Bool, true, false, cond, List, [], ◌∷◌, Some, All, get_or, length, map, refl, sym, ap, ◌∙◌, subst, arith}
use Rattle.std.specs.Prelude.{slice_get}
use Rattle.std.proofs.lemmas.List.{length-map, take_all}
use Rattle.std.proofs.lemmas.Option.{get_or_from_slice_get, slice_get_within}
use Rattle.mm_value.specs.declared.values.Value.{Value}
use Rattle.mm_partition.specs.Places.{Live, slot_at}
use Rattle.mm_indexed.specs.Kept.{StoredRows}
use Rattle.mm_schema.specs.Sorting.{in_order}
use Rattle.mm_query.specs.Queries.{one_of_each, rows_by_columns}
use Rattle.mm_store.specs.Tables.{IsAt}
use Rattle.mm_templist.specs.Combos.{AreLive}
use Rattle.mm_templist.specs.Results.{result_rows}
use Rattle.mm_value.specs.declared.row_ref.RowRef.{RowRef}
use Rattle.mm_query.specs.Queries.{values_of}
use Rattle.mm_store.specs.Tables.{Tables}
use Rattle.mm_templist.specs.Combos.{Combos, combo_rows, rows_of_combo}
use Rattle.mm_templist.specs.Results.{projected_rows}
use Rattle.mm_templist.proofs.Live.{next_projected, row_is_found}

-- There is a row for each combination.
pub length_projected : (store : Tables) (list : Combos) → length (projected_rows store list) ≡ length list.combos
length_projected store list =
    length-map (combo_rows store list) (λ rows. values_of list.fields (map Some rows))
    ∙ length-map list.combos (rows_of_combo store list.tables)

-- The row of the only combination is the only row.
pub only_projected : (store : Tables) (list : Combos) (combo : List RowRef) → length list.combos ≡ 1 → slice_get list.combos 0 ≡ Some combo
    → projected_rows store list ≡ values_of list.fields (map Some (rows_of_combo store list.tables combo)) ∷ []
only_projected store list combo one is =
    let all : length (projected_rows store list) ≤ 1 = omega (arith, one, length_projected store list) in
    sym (take_all 1 (projected_rows store list) all) ∙ next_projected store list 0 combo is

-- The first combination of a live list is live, however its tables are written.
pub first_live : (store : Tables) (list : Combos) (tables : List ℕ) (combo : List RowRef) → All (AreLive store list.tables) list.combos
    → slice_get list.combos 0 ≡ Some combo → tables ≡ list.tables → AreLive store tables combo
first_live store list tables combo live is same =
    subst (λ ts. AreLive store ts combo) (sym same)
    (subst (AreLive store list.tables) (get_or_from_slice_get list.combos 0 combo [] is) (live 0 [] (slice_get_within list.combos 0 combo is)))

-- A combination of one table has one row.
pub row_alone : (store : Tables) (tables : List ℕ) (refs : List RowRef) (row : List Value) → length tables ≡ 1 → AreLive store tables refs
    → ((stored : StoredRows) → IsAt store (get_or tables 0 0) stored → slot_at stored.places (get_or refs 0 (record { slot = 0 })) ≡ Live row)
    → rows_of_combo store tables refs ≡ row ∷ []
row_alone store [] refs row one live found = absurd (omega (arith, one))
row_alone store (table ∷ []) [] row one live found = absurd live
row_alone store (table ∷ []) (at ∷ []) row one live found = ap (λ r. r ∷ []) (row_is_found store table at row live.0 found)
row_alone store (table ∷ []) (at ∷ b ∷ refs) row one live found = absurd live.1
row_alone store (table ∷ t ∷ tables) refs row one live found = absurd (omega (arith, one))

-- Without combinations the result has no rows.
pub none_shown : (store : Tables) (list : Combos) (distinct : Bool) (order : List ℕ) → length list.combos ≡ 0
    → result_rows store list distinct order ≡ []
none_shown store list distinct order none = by (projected_rows store list) (length_projected store list ∙ none) distinct
  where
    by : (rows : List (List Value)) → length rows ≡ 0 → (distinct : Bool)
        → in_order (rows_by_columns order) (cond distinct (one_of_each rows) rows) ≡ []
    by [] empty true = refl
    by [] empty false = refl
    by (row ∷ rows) empty distinct = absurd (omega (arith, empty))
