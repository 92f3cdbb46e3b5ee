-- The bag of the rows found by a plan.
use Rattle.std.proofs.Common.{◌≡◌, ℕ, zero, suc, pos, ◌+◌, ◌≤◌, ◌+ℤ◌, ⊎_elim, Bool, true, false, true≢false, cond, List, [], ◌∷◌, ◌++◌, Some, None, length, map}
use Rattle.std.proofs.Common.{get_or, refl, sym, ap, ◌∙◌, subst, arith}
use Rattle.std.specs.Option.{option_map}
use Rattle.std.specs.Prelude.{slice_get}
use Rattle.std.specs.List.Sorted.{IsPermutation}
use Rattle.std.proofs.lemmas.Int.{ints}
use Rattle.std.proofs.lemmas.List.Sorted.{IsPermutation-map, sum_by-IsPermutation}
use Rattle.std.proofs.lemmas.List.Sums.{sum_by_push}
use Rattle.std.proofs.lemmas.Option.{slice_get-map}
use Rattle.mm_value.specs.Equality.{same_row}
use Rattle.mm_value.specs.declared.row_ref.RowRef.{RowRef}
use Rattle.mm_value.specs.declared.values.Value.{Value}
use Rattle.mm_query.specs.Queries.{bag_of, values_of}
use Rattle.mm_query.specs.declared.bound_query.BoundQuery.{BoundQuery}
use Rattle.mm_query.specs.declared.bound_query.FieldPlace.{FieldPlace}
use Rattle.mm_partition.specs.Places.{IsLive}
use Rattle.mm_indexed.specs.Kept.{StoredRows}
use Rattle.mm_store.specs.Tables.{IsAt, Tables, rows_at}
use Rattle.mm_templist.specs.Combos.{AreLive, Combos, combo_rows, row_of, rows_of_combo}
use Rattle.mm_templist.specs.Results.{projected_rows}
use Rattle.mm_select.specs.Fitting.{AreFitting, fitting}
use Rattle.mm_multiset.specs.Counts.{Adds, Entries, count_in}
use Rattle.mm_multiset.proofs.Undoing.{only_one}
use Rattle.mm_standing.specs.Bags.{ArePositive}
use Rattle.mm_standing.specs.Queries.{IsBagOf}

-- ---- one row after another

counted_more : (b : Bool) (n m : ℕ) → pos n ≡ pos m +ℤ (cond b (pos 1) (pos 0) +ℤ pos 0) → n ≡ m + cond b 1 0
counted_more true n m h = omega (arith, ints)
counted_more false n m h = omega (arith, ints)

-- One more row is counted.
pub bag_more : (es fs : Entries) (rows : List (List Value)) (row : List Value) → IsBagOf es rows
    → Adds (record { row = row; count = pos 1 }) es fs → IsBagOf fs (rows ++ row ∷ [])
bag_more es fs rows row bag adds other =
    counted_more (same_row other row) (count_in other fs) (count_in other es) (adds.counts other)
    ∙ ap (λ n. n + cond (same_row other row) 1 0) (bag other)
    ∙ sym (sum_by_push (λ r. cond (same_row other r) 1 0) rows row)

-- Its count is above 0, and the others are unchanged.
pub positive_more : (es fs : Entries) (row : List Value) → ArePositive es → Adds (record { row = row; count = pos 1 }) es fs → ArePositive fs
positive_more es fs row positive adds other has =
    let counted = counted_more (same_row other row) (count_in other fs) (count_in other es) (adds.counts other) in
    ⊎_elim
    (λ had. let was = positive other had in omega (arith, was, counted))
    (λ same. let one : ◌≡◌ {A = ℕ} (cond (same_row other row) 1 0) 1 = ap {B = ℕ} (λ b. cond b 1 0) same in omega (arith, one, counted))
    (only_one (record { row = row; count = pos 1 }) es fs adds other has)

pub positive_none : ArePositive []
positive_none row has = absurd (true≢false (sym has))

-- ---- the rows found by a plan

-- The rows of the combinations are those of the bag.
pub found_bag : (store : Tables) (query : BoundQuery) (tables : List ℕ) (list : Combos) → list.tables ≡ tables → list.fields ≡ query.fields
    → AreFitting store query.atoms list
    → IsPermutation (projected_rows store list) (bag_of query (map (rows_at store.tables) tables))
found_bag store query tables list joined fields fits =
    subst (λ (ts : List ℕ). IsPermutation (projected_rows store list)
    (map (λ rows. values_of query.fields (map Some rows)) (fitting query.atoms (map (rows_at store.tables) ts)))) joined
    (subst (λ (fs : List FieldPlace). IsPermutation (projected_rows store list)
    (map (λ rows. values_of fs (map Some rows)) (fitting query.atoms (map (rows_at store.tables) list.tables)))) fields
    (IsPermutation-map (λ rows. values_of list.fields (map Some rows)) (combo_rows store list)
    (fitting query.atoms (map (rows_at store.tables) list.tables)) fits))

-- A bag of rows is one of the same rows in another order.
pub bag_moved : (es : Entries) (rows others : List (List Value)) → IsPermutation rows others → IsBagOf es rows → IsBagOf es others
bag_moved es rows others moved bag row = bag row ∙ sym (sum_by-IsPermutation (λ r. cond (same_row row r) 1 0) rows others moved)

-- The row of the combination at a place is at that place.
pub projected_at : (store : Tables) (list : Combos) (i : ℕ) (combo : List RowRef) → slice_get list.combos i ≡ Some combo
    → slice_get (projected_rows store list) i ≡ Some (values_of list.fields (map Some (rows_of_combo store list.tables combo)))
projected_at store list i combo is =
    let shown = λ (rows : List (List Value)). values_of list.fields (map Some rows) in
    slice_get-map shown (combo_rows store list) i
    ∙ (ap (option_map shown) (slice_get-map (rows_of_combo store list.tables) list.combos i)
    ∙ ap (λ o. option_map shown (option_map (rows_of_combo store list.tables) o)) is)

-- ---- the rows read for a combination

-- At a place of FROM with this table, a combination has a reference to an existing row.
pub record IsRead (store : Tables) (tables : List ℕ) (combo : List RowRef) (place table : ℕ) : Type 0 where
  pub at : RowRef
  pub named : slice_get combo place ≡ Some at
  pub stored : StoredRows
  pub there : IsAt store table stored
  pub live : IsLive stored.places at
  pub row : get_or (map Some (rows_of_combo store tables combo)) place None ≡ Some (row_of store table at)

-- A combination has a reference at each place that has a table, ..
pub read_from : (store : Tables) (tables : List ℕ) (combo : List RowRef) (place table : ℕ) → AreLive store tables combo → slice_get tables place ≡ Some table
    → IsRead store tables combo place table
read_from store [] [] place table live is = cc
read_from store [] (at ∷ refs) place table live is = absurd live
read_from store (t ∷ tables) [] place table live is = absurd live
read_from store (t ∷ tables) (at ∷ refs) zero table live is =
    let same : t ≡ table = cc in
    record {
      at = at;
      named = refl;
      stored = live.0.0;
      there = subst (λ n. IsAt store n live.0.0) same live.0.1;
      live = live.0.2;
      row = ap (λ n. Some (row_of store n at)) same;
    }
read_from store (t ∷ tables) (at ∷ refs) (suc place) table live is =
    let later = read_from store tables refs place table live.1 is in
    record { at = later.at; named = later.named; stored = later.stored; there = later.there; live = later.live; row = later.row }

-- .. and no row at any other place.
pub none_read : (store : Tables) (tables : List ℕ) (combo : List RowRef) (place : ℕ) → AreLive store tables combo → length tables ≤ place
    → get_or (map Some (rows_of_combo store tables combo)) place None ≡ None
none_read store [] [] place live past = refl
none_read store [] (at ∷ refs) place live past = absurd live
none_read store (t ∷ tables) [] place live past = absurd live
none_read store (t ∷ tables) (at ∷ refs) zero live past = absurd (omega (arith, past))
none_read store (t ∷ tables) (at ∷ refs) (suc place) live past = none_read store tables refs place live.1 (omega (arith, past))
