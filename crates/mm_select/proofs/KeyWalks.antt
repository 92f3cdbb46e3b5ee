-- Walks in key order are the list of references.
use Rattle.std.proofs.Common.{◌≡◌, ℕ, suc, true, List, [], ◌∷◌, Option, drop, get_or, inl, inr, length, map, refl, sym, ap, ◌∙◌, subst, arith}
use Rattle.std.specs.Borrow.{Bor}
use Rattle.std.specs.List.{All}
use Rattle.std.specs.List.Sorted.{IsPermutation, IsStrictlySortedBy}
use Rattle.std.specs.declared.cmp.Ordering.TheVariants.{Equal}
use Rattle.std.specs.Option.{option_copied, option_map_or}
use Rattle.std.proofs.lemmas.Bool.{false≢true}
use Rattle.std.proofs.lemmas.Cmp.{tied_itself}
use Rattle.std.proofs.lemmas.List.{length-map}
use Rattle.std.proofs.lemmas.List.Elements.{All-head, All-tail, Contains-get_or}
use Rattle.std.proofs.lemmas.List.Sorted.{Contains-permutation, IsPermutation-sym}
use Rattle.mm_partition.specs.Places.{IsLive, slot_at}
use Rattle.mm_indexed.proofs.RefTests.{same_or_apart}
use Rattle.mm_row_order.specs.InOrder.{InOrder}
use Rattle.mm_indexed.specs.Kept.{StoredRows}
use Rattle.mm_row_order.specs.Orders.{refs_by_total}
use Rattle.mm_indexed.specs.Reads.{IsRange, IsWalk}
use Rattle.mm_row_order.specs.Refs.{HasRow, Slots, refs_by, row_at}
use Rattle.mm_indexed.specs.RowLists.{rows_of}
use Rattle.mm_schema.proofs.StrictOrder.{Contains-from_IsIn, IsIn, IsIn-from_Contains, IsStrictlySortedBy-from_neighbours, same_from_elements}
use Rattle.mm_schema.proofs.Duplicates.{column_cmp_total}
use Rattle.mm_schema.specs.Rows.{column_cmp}
use Rattle.mm_store.specs.Joined.{IsTable}
use Rattle.mm_store.specs.Tables.{IsAt, Tables, rows_at}
use Rattle.mm_store.specs.declared.index_ref.IndexRef.{IndexRef}
use Rattle.mm_store.specs.declared.index_ref.IndexRef.TheVariants.{Key, Tree, Hash}
use Rattle.mm_value.specs.declared.row_ref.RowRef.{RowRef}
use Rattle.mm_value.specs.declared.values.Value.{Value}
use Rattle.mm_select.proofs.Found.{between_filtered}
use Rattle.mm_select.specs.Accesses.{IsServed, is_in_key_order, refs_along}
use Rattle.mm_select.specs.declared.access.Access.TheVariants as access

moved : (xs ys : List RowRef) → IsPermutation xs ys → (at : RowRef) → IsIn at xs → IsIn at ys
moved xs ys there at here = IsIn-from_Contains ys at (Contains-permutation xs ys at there (Contains-from_IsIn xs at here))

module _ (stored : StoredRows) (table : IsTable stored) where
  abbrev now : Slots
  now = slot_at stored.places

  -- Two references with the same key are equal.
  pub same_from_keys : (x y : RowRef) → HasRow now x → HasRow now y → column_cmp stored.key (row_at now x) (row_at now y) ≡ Equal → x ≡ y
  same_from_keys x y live_x live_y tie =
      elim (same_or_apart x y) [
        | inl same ↦ same
        | inr differ ↦ absurd (table.apart y live_y (x, live_x, differ, tie))
      ]

  -- Live references of the same rows are equal.
  same_from_rows : (xs ys : List RowRef) → All (HasRow now) xs → All (HasRow now) ys → map (row_at now) xs ≡ map (row_at now) ys → xs ≡ ys
  same_from_rows [] [] live_xs live_ys same = refl
  same_from_rows [] (y ∷ ys) live_xs live_ys same = cc
  same_from_rows (x ∷ xs) [] live_xs live_ys same = cc
  same_from_rows (x ∷ xs) (y ∷ ys) live_xs live_ys same =
      let row_same : row_at now x ≡ row_at now y = ap (λ rows. get_or rows 0 []) same in
      let tie : column_cmp stored.key (row_at now x) (row_at now y) ≡ Equal =
      ap (column_cmp stored.key (row_at now x)) (sym row_same) ∙ tied_itself (column_cmp_total stored.key) (row_at now x) in
      let first : x ≡ y = same_from_keys x y (All-head (HasRow now) x xs live_xs) (All-head (HasRow now) y ys live_ys) tie in
      let rest : xs ≡ ys = same_from_rows xs ys (All-tail (HasRow now) x xs live_xs) (All-tail (HasRow now) y ys live_ys) (ap (drop 1) same) in
      λ i. first i ∷ rest i

  -- A walk of all rows in key order is the list of references.
  pub walk_is : (walk : List RowRef) → map (row_at now) walk ≡ rows_of stored → All (IsLive stored.places) walk → walk ≡ stored.refs
  walk_is walk rows live =
      same_from_rows walk stored.refs live (λ k d within. (table.kept.held (get_or stored.refs k d)).0 (Contains-get_or stored.refs k d within)) rows

  strict : (refs : List RowRef) → InOrder stored.key stored.key now refs → IsStrictlySortedBy (refs_by stored.key stored.key now) refs
  strict refs order =
      IsStrictlySortedBy-from_neighbours (refs_by_total stored.key stored.key now) refs
      (λ k d within. order.ascending k (suc k) d (omega arith) (omega (arith, within)))

  -- A walk along the tree on the key is the list of references.
  tree_walk_is : (column : ℕ) → column ≡ stored.key → (walk : List RowRef) → IsWalk column stored walk → walk ≡ stored.refs
  tree_walk_is column on walk is =
      let ordered : InOrder stored.key stored.key now walk = subst (λ n. InOrder n stored.key now walk) on is.ordered in
      same_from_elements (refs_by_total stored.key stored.key now) walk stored.refs (strict walk ordered) (strict stored.refs table.kept.by_key)
      (moved walk stored.refs is.same) (moved stored.refs walk (IsPermutation-sym walk stored.refs is.same))

  -- A range along the key is in key order.
  pub range_in_order : (index : IndexRef) (column : ℕ) (low high : Option (Bor Value)) (found : List RowRef)
      → IsServed stored (access.Range index column low high) → IsRange column stored (option_copied low) (option_copied high) found
      → is_in_key_order (access.Range index column low high) ≡ true → found ≡ refs_along stored (access.Range index column low high)
  range_in_order Key column low high found on (walk, is_walk, is) ordered =
      between_filtered stored table.kept Key column low high on walk found (tree_walk_is column on.0 walk is_walk) is
  range_in_order (Tree place) column low high found on range ordered = absurd (false≢true ordered)
  range_in_order (Hash place) column low high found on range ordered = absurd (false≢true ordered)

-- A walk has one reference for each row.
pub walk_counted : (store : Tables) (table : ℕ) (stored : StoredRows) → IsAt store table stored → (walk : List RowRef)
    → map (row_at (slot_at stored.places)) walk ≡ rows_of stored → length walk ≡ length (rows_at store.tables table)
walk_counted store table stored here walk rows =
    sym (length-map walk (row_at (slot_at stored.places)))
    ∙ (ap length rows ∙ ap (λ (o : Option StoredRows). length (option_map_or rows_of o [])) (sym here))
