-- The rows of a query, found over the store.
use Rattle.std.proofs.Common.{◌≡◌, IsPermutation, ℕ, zero, suc, ◌<◌, Bool, true, false, cond, List, [], ◌∷◌, Option, Some, None, All, length, map, slice_get}
use Rattle.std.proofs.Common.{refl, sym, ap, ◌∙◌, subst, arith}
use Rattle.std.specs.List.{list_any}
use Rattle.std.specs.Option.{option_map_or, unwrap_or}
use Rattle.std.proofs.lemmas.Bool.{false≢true, or_parts}
use Rattle.std.proofs.lemmas.List.Elements.{All-cons, All-nil}
use Rattle.std.proofs.lemmas.List.Sorted.{IsPermutation-map}
use Rattle.mm_query.specs.Queries.{bag_of, one_of_each, rows_by_columns, size_conditions, values_of}
use Rattle.mm_query.specs.Resolving.{bag_in, placed_query, places_in, query_conditions, select_conditions, selected}
use Rattle.mm_query.specs.State.{State, rows_in}
use Rattle.mm_query.specs.declared.bound_query.BoundQuery.{BoundQuery}
use Rattle.mm_query.specs.declared.query.FromItem.{FromItem}
use Rattle.mm_query.specs.declared.query.Query.{Query}
use Rattle.mm_query.proofs.Due.{lacks_nowhere}
use Rattle.mm_laws.proofs.SortedRows.{shown_of_permutation, shown_once_of_permutation}
use Rattle.mm_indexed.specs.Kept.{StoredRows}
use Rattle.mm_indexed.specs.RowLists.{rows_of}
use Rattle.mm_schema.specs.Refused.{first_refusal}
use Rattle.mm_schema.specs.Schema.{Schema, lacks_table, table_place}
use Rattle.mm_schema.specs.Sorting.{in_order}
use Rattle.mm_schema.proofs.Dues.{due_behind}
use Rattle.mm_select.specs.Fitting.{AreFitting, fitting}
use Rattle.mm_store.specs.Tables.{Tables, rows_at}
use Rattle.mm_templist.specs.Combos.{Combos, combo_rows}
use Rattle.mm_templist.specs.Results.{projected_rows, result_rows}
use Rattle.mm_value.specs.declared.values.Value.{Value}
use Rattle.mm_plan.specs.Kept.{AreOf}
use Rattle.mm_txn.specs.Kept.{state_of}
use Rattle.mm_txn.proofs.DatabaseSteps.{rows_of_name, rows_there}

-- ---- the tables of FROM

record Entry (rs : List StoredRows) (place : ℕ) : Type 0 where
  stored : StoredRows
  there : slice_get rs place ≡ Some stored

entry : (rs : List StoredRows) (place : ℕ) → place < length rs → Entry rs place
entry (r ∷ rs) zero inside = record { stored = r; there = refl }
entry (r ∷ rs) (suc place) inside = let later = entry rs place (omega (arith, inside)) in record { stored = later.stored; there = later.there }
entry [] place inside = absurd (omega (arith, inside))

module _ (schema : Schema) (store : Tables) (are : AreOf schema.tables store.tables) where
  abbrev state : State
  state = state_of schema store.tables

  -- The relation at the place of a table's name exists, and has its rows.
  record IsFound (name : List ℕ) : Type 0 where
    inside : unwrap_or (table_place name schema) 0 < length store.tables
    rows : rows_at store.tables (unwrap_or (table_place name schema) 0) ≡ rows_in state name

  found : (name : List ℕ) → lacks_table name schema ≡ false → IsFound name
  found name there = by (table_place name schema) refl
    where
      by : (place : Option ℕ) → table_place name schema ≡ place → IsFound name
      by None nowhere = absurd (false≢true (sym there ∙ lacks_nowhere name schema nowhere))
      by (Some place) placed =
          let within = rows_there schema store.tables are name place placed in
          let it = entry store.tables place within in
          record {
            inside = subst (λ p. unwrap_or p 0 < length store.tables) (sym placed) within;
            rows = ap (λ p. rows_at store.tables (unwrap_or p 0)) placed
                ∙ (ap (λ s. option_map_or rows_of s []) it.there ∙ sym (rows_of_name schema store.tables are name place placed it.stored it.there));
          }

  pub all_there : (from : List FromItem) → list_any (λ (item : FromItem). lacks_table item.table schema) from ≡ false
      → All (λ t. t < length store.tables) (places_in schema from)
  all_there [] there = All-nil (λ t. t < length store.tables)
  all_there (item ∷ from) there =
      let parts = or_parts (lacks_table item.table schema) (list_any (λ (i : FromItem). lacks_table i.table schema) from) there in
      All-cons (λ t. t < length store.tables) _ _ (found item.table parts.0).inside (all_there from parts.1)

  pub lists_are : (from : List FromItem) → list_any (λ (item : FromItem). lacks_table item.table schema) from ≡ false
      → map (rows_at store.tables) (places_in schema from) ≡ map (λ (item : FromItem). rows_in state item.table) from
  lists_are [] there = refl
  lists_are (item ∷ from) there =
      let parts = or_parts (lacks_table item.table schema) (list_any (λ (i : FromItem). lacks_table i.table schema) from) there in
      λ i. (found item.table parts.0).rows i ∷ lists_are from parts.1 i

  -- ---- a query

  module _ (query : Query) where
    abbrev lists : List (List (List Value))
    lists = map (rows_at store.tables) (places_in schema query.from)

    module _ (none : first_refusal (query_conditions query schema) ≡ None)
        (there : list_any (λ (item : FromItem). lacks_table item.table schema) query.from ≡ false) where
      bag_is : bag_of (placed_query schema query) lists ≡ bag_in state query
      bag_is = ap (bag_of (placed_query schema query)) (lists_are query.from there)

      -- A query that the catalog does not refuse is refused only because of the number of its combinations.
      pub due_is_size : first_refusal (select_conditions query state) ≡ first_refusal (size_conditions (bag_of (placed_query schema query) lists))
      due_is_size = due_behind (query_conditions query schema) (size_conditions (bag_in state query)) none
          ∙ ap (λ b. first_refusal (size_conditions b)) (sym bag_is)

      -- The rows shown of a list of its combinations are its rows.
      pub shows_selected : (list : Combos) → list.tables ≡ places_in schema query.from → list.fields ≡ (placed_query schema query).fields
          → AreFitting store (placed_query schema query).atoms list
          → result_rows store list (placed_query schema query).distinct (placed_query schema query).order ≡ selected query state
      shows_selected list tables fields fits =
          by query.distinct (placed_query schema query).order (projected_rows store list) (bag_of (placed_query schema query) lists)
          (subst (λ ts. IsPermutation (projected_rows store list) (map (λ rows. values_of (placed_query schema query).fields (map Some rows))
          (fitting (placed_query schema query).atoms (map (rows_at store.tables) ts)))) tables
          (subst (λ fs. IsPermutation (projected_rows store list) (map (λ rows. values_of fs (map Some rows))
          (fitting (placed_query schema query).atoms (map (rows_at store.tables) list.tables)))) fields
          (IsPermutation-map (λ rows. values_of list.fields (map Some rows)) (combo_rows store list)
          (fitting (placed_query schema query).atoms (map (rows_at store.tables) list.tables)) fits)))
          ∙ ap (λ b. in_order (rows_by_columns (placed_query schema query).order) (cond query.distinct (one_of_each b) b)) bag_is
        where
          by : (distinct : Bool) (order : List ℕ) (a b : List (List Value)) → IsPermutation a b
              → in_order (rows_by_columns order) (cond distinct (one_of_each a) a) ≡ in_order (rows_by_columns order) (cond distinct (one_of_each b) b)
          by true order a b moved = shown_once_of_permutation order a b moved
          by false order a b moved = shown_of_permutation order a b moved

      -- So the bound form is of the same query with the same tables, however they are written.
      module _ (bound : BoundQuery) (bound_is : bound ≡ placed_query schema query) (tables : List ℕ) (tables_are : tables ≡ places_in schema query.from) where
        pub due_of : first_refusal (select_conditions query state) ≡ first_refusal (size_conditions (bag_of bound (map (rows_at store.tables) tables)))
        due_of = due_is_size ∙ (λ i. first_refusal (size_conditions (bag_of (sym bound_is i) (map (rows_at store.tables) (sym tables_are i)))))

        pub rows_of_list : (list : Combos) → list.tables ≡ tables → list.fields ≡ bound.fields → AreFitting store bound.atoms list
            → result_rows store list bound.distinct bound.order ≡ selected query state
        rows_of_list list joined fields fits =
            (λ i. result_rows store list (bound_is i).distinct (bound_is i).order)
            ∙ shows_selected list (joined ∙ tables_are) (fields ∙ ap (λ (b : BoundQuery). b.fields) bound_is)
            (subst (λ (b : BoundQuery). AreFitting store b.atoms list) bound_is fits)
