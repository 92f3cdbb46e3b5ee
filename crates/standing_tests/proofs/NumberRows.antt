-- Rows of integers, and queries over them.
use Rattle.std.proofs.Common.{◌≡◌, ℕ, zero, suc, pos, ◌==◌, Bool, true, false, cond, List, [], ◌∷◌, ◌++◌, Option, Some, None, filter, get_or, length, map, refl}
use Rattle.std.proofs.Common.{replicate, slice_get, sym, ap, subst, ◌∙◌}
use Rattle.std.specs.List.{All, AllByRecursion, filter_map, flat_map}
use Rattle.std.specs.Option.{option_map, option_map_or, unwrap_or}
use Rattle.std.proofs.lemmas.Bool.{eqb-true}
use Rattle.std.proofs.lemmas.List.Elements.{All-append, All-cons, All-filter, All-head, All-map, All-nil, All-tail, All-weaker}
use Rattle.mm_delta.specs.Edited.{before_at}
use Rattle.mm_laws.proofs.TypedRows.{held_by_changed}
use Rattle.mm_partition.specs.Places.{slot_at}
use Rattle.mm_partition.specs.Types.{HasTypes}
use Rattle.mm_query.specs.Atoms.{value_in}
use Rattle.mm_query.specs.Queries.{combinations, fits, projected, value_at, values_of}
use Rattle.mm_query.specs.declared.bound_query.FieldPlace.{FieldPlace}
use Rattle.mm_indexed.specs.Kept.{StoredRows}
use Rattle.mm_row_order.specs.Refs.{Slots}
use Rattle.mm_indexed.specs.RowLists.{rows_of}
use Rattle.mm_standing.specs.Queries.{GivesTyped, RowsByPlace, StandingQuery}
use Rattle.mm_store.specs.Edits.{pairs_of, rows_after, rows_come}
use Rattle.mm_store.specs.Tables.{IsAt, Tables, rows_at}
use Rattle.mm_tables.specs.declared.edit.Edit.{Edit}
use Rattle.mm_value.specs.Types.{type_of}
use Rattle.mm_value.specs.declared.col_type.ColType.{ColType}
use Rattle.mm_value.specs.declared.col_type.ColType.TheVariants as type
use Rattle.mm_value.specs.declared.values.Value.{Value}
use Rattle.mm_value.specs.declared.values.Value.TheVariants.{Int}
use Rattle.store_tests.specs.SampleStore.{ArePlain, plain_types}
use Rattle.store_tests.proofs.PlainStores.{plain_at}
use Rattle.standing_tests.specs.Cases.{AreFitAt, HaveNumbers, IsWhole, rows_edited}

abbrev Row : Type 0
Row = List Value

-- ---- queries

-- A row of two integers has an integer in each column.
number_in : (row : Row) → HasTypes plain_types row → (column : ℕ) → type_of (value_in column row) ≡ type.Int
number_in [] has column = cc
number_in (a ∷ []) has column = cc
number_in (a ∷ b ∷ []) has zero = cc
number_in (a ∷ b ∷ []) has (suc zero) = cc
number_in (a ∷ b ∷ []) has (suc (suc column)) = refl
number_in (a ∷ b ∷ c ∷ others) has column = cc

-- all rows of a combination are such rows
abbrev AreNumbers : List Row → Type 0
AreNumbers combination = AllByRecursion (HasTypes plain_types) combination

number_at : (combination : List Row) → AreNumbers combination → (place column : ℕ)
    → type_of (unwrap_or (option_map (value_in column) (get_or (map Some combination) place None)) (Int (pos 0))) ≡ type.Int
number_at [] are place column = refl
number_at (row ∷ others) are zero column = number_in row are.0 column
number_at (row ∷ others) are (suc place) column = number_at others are.1 place column

numbers_of : (combination : List Row) → AreNumbers combination → (fields : List FieldPlace)
    → map type_of (values_of fields (map Some combination)) ≡ replicate (length fields) type.Int
numbers_of combination are [] = refl
numbers_of combination are (field ∷ fields) =
    λ i. number_at combination are field.place field.column i ∷ numbers_of combination are fields i

module _ (rows : RowsByPlace) (have : HaveNumbers rows) where
  combined : (tables : List ℕ) → All AreNumbers (combinations (map rows tables))
  combined [] = All-cons AreNumbers [] [] tt (All-nil AreNumbers)
  combined (table ∷ tables) = each (combined tables) (rows table) (have table)
    where
      each : All AreNumbers (combinations (map rows tables)) → (rs : List Row) → All (HasTypes plain_types) rs
          → All AreNumbers (flat_map (λ (row : Row). map (λ others. row ∷ others) (combinations (map rows tables))) rs)
      each later [] has = All-nil AreNumbers
      each later (row ∷ rs) has =
          All-append AreNumbers _ _
          (All-map AreNumbers (λ others. row ∷ others) (combinations (map rows tables))
          (All-weaker AreNumbers (λ others. AreNumbers (row ∷ others)) (λ others are. (All-head (HasTypes plain_types) row rs has, are)) _ later))
          (each later rs (All-tail (HasTypes plain_types) row rs has))

  -- The result of a query over such rows has rows of integers.
  pub gives_numbers : (standing : StandingQuery) → standing.types ≡ replicate (length standing.query.fields) type.Int → GivesTyped rows standing
  gives_numbers standing types =
      let query = standing.query in
      subst (λ (ts : List ColType). All (HasTypes ts) (map (projected query) (filter (fits query) (combinations (map rows standing.tables))))) (sym types)
      (All-map (HasTypes (replicate (length query.fields) type.Int)) (projected query) (filter (fits query) (combinations (map rows standing.tables)))
      (All-weaker AreNumbers _ (λ combination are. numbers_of combination are query.fields) _
      (All-filter (fits query) AreNumbers _ (combined standing.tables))))

  pub all_give : (queries : List StandingQuery) → All IsWhole queries → All (GivesTyped rows) queries
  all_give queries whole = All-weaker IsWhole (GivesTyped rows) (λ standing is. gives_numbers standing is.types) queries whole

-- ---- edits

-- After the edits of one table all rows are still of integers.
pub numbers_edited : (store : Tables) (table : ℕ) (edits : List Edit) → ArePlain store → HaveNumbers (before_at store)
    → AreFitAt store table edits → HaveNumbers (rows_edited store table edits)
numbers_edited store table edits plain have fit place = by (table == place) refl
  where
    edited : (found : Option StoredRows) → slice_get store.tables place ≡ found → table ≡ place
        → All (HasTypes plain_types) (option_map_or (λ (stored : StoredRows). rows_after stored edits) found [])
    edited None there same = All-nil (HasTypes plain_types)
    edited (Some stored) there same =
        let now : Slots = slot_at stored.places in
        let old : All (HasTypes plain_types) (rows_of stored) =
        subst (λ (o : Option StoredRows). All (HasTypes plain_types) (option_map_or rows_of o [])) there (have place) in
        let own : IsAt store table stored = ap (slice_get store.tables) same ∙ there in
        let new : All (HasTypes plain_types) (rows_come now edits) =
        subst (λ (types : List ColType). All (HasTypes types) (rows_come now edits)) (plain_at store table plain stored own).types (fit stored own).typed in
        held_by_changed (HasTypes plain_types) stored.key (pairs_of now edits) (rows_of stored) old new

    by : (b : Bool) → (table == place) ≡ b
        → All (HasTypes plain_types) (cond b (option_map_or (λ (stored : StoredRows). rows_after stored edits) (slice_get store.tables place) [])
        (rows_at store.tables place))
    by true own = edited (slice_get store.tables place) refl (eqb-true table place own)
    by false other = have place

-- ---- new tables

-- So they are with a new table, which has no rows.
pub numbers_behind : (tables : List StoredRows) (new : StoredRows) → rows_of new ≡ [] → ((place : ℕ) → All (HasTypes plain_types) (rows_at tables place))
    → (place : ℕ) → All (HasTypes plain_types) (rows_at (tables ++ new ∷ []) place)
numbers_behind [] new none have zero = subst (All (HasTypes plain_types)) (sym none) (All-nil (HasTypes plain_types))
numbers_behind [] new none have (suc place) = All-nil (HasTypes plain_types)
numbers_behind (t ∷ ts) new none have zero = have zero
numbers_behind (t ∷ ts) new none have (suc place) = numbers_behind ts new none (λ p. have (suc p)) place
