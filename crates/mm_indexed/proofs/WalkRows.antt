-- If no two rows have one key, the rows along an index are the table's rows, sorted in the index's order.
use Rattle.std.proofs.Common.{◌≡◌, ◌≢◌, ℕ, suc, ◌<◌, false, List, length, get_or, sym, ap, ◌∙◌, subst, arith, add-one}
use Rattle.std.specs.Prelude.{map, slice_index_or, IsPermutation}
use Rattle.std.specs.Cmp.{IsTotalOrder, then_total}
use Rattle.std.specs.List.Sorted.{IsStrictlySortedBy}
use Rattle.std.specs.List.{AllPairs}
use Rattle.std.specs.Ordering.{is_lt, ordering_reverse}
use Rattle.std.specs.declared.cmp.Ordering.TheVariants.{Less, Equal}
use Rattle.std.proofs.Math.ListN.{get_or-map}
use Rattle.std.proofs.lemmas.List.{get_or_default, length-map}
use Rattle.std.proofs.lemmas.List.Sorted.{Contains-permutation, IsPermutation-map, IsPermutation-sym, IsPermutation-trans}
use Rattle.mm_value.specs.declared.row_ref.RowRef.{RowRef}
use Rattle.mm_value.specs.declared.values.Value.{Value}
use Rattle.mm_partition.specs.Places.{slot_at}
use Rattle.mm_schema.specs.Rows.{column_cmp, rows_by}
use Rattle.mm_schema.specs.Sorting.{in_order}
use Rattle.mm_schema.proofs.InOrder.{IsPermutation-in_order, IsSorted-in_order}
use Rattle.mm_schema.proofs.Orderings.{less_from_no_tie}
use Rattle.mm_schema.proofs.StrictOrder.{Contains-from_IsIn, IsIn, IsIn-from_Contains, IsStrictlySortedBy-from_neighbours, same_from_elements}
use Rattle.mm_schema.proofs.Duplicates.{column_cmp_total}
use Rattle.mm_schema.specs.declared.index.IndexKind.TheVariants as kind
use Rattle.ttree.specs.Held.{Held}
use Rattle.mm_row_order.specs.InOrder.{InOrder, KeysApart}
use Rattle.mm_indexed.specs.Index.{Keeps, column_of}
use Rattle.mm_indexed.specs.Kept.{IsKept, StoredRows}
use Rattle.mm_indexed.specs.Reads.{HasIndex, IsWalk}
use Rattle.mm_row_order.specs.Refs.{Slots, row_at}
use Rattle.mm_indexed.specs.RowLists.{rows_of}
use Rattle.mm_indexed.specs.declared.indexes.index.Index.{Index}
use Rattle.mm_indexed.specs.declared.indexes.index.Index.TheVariants.{Tree}
use Rattle.mm_indexed.specs.Twins.{AreApart}
use Rattle.mm_indexed.proofs.Apart.{KeysApart-refs, strict_rows}
use Rattle.mm_partition.proofs.Permuted.{AllPairs-permutation}
use Rattle.mm_row_order.proofs.SortedRows.{not_tied}
use Rattle.mm_value.proofs.Orders.{then_second}

-- no two of these rows have one key
abbrev RowsApart : ℕ → List (List Value) → Type 0
RowsApart key rows = AllPairs (λ x y. column_cmp key x y ≢ Equal) rows

-- the row at a place is that of the reference there, whatever the default past the end
at_place : (now : Slots) (refs : List RowRef) (r : RowRef) (i : ℕ) (d : List Value) → i < length refs
    → get_or (map (row_at now) refs) i d ≡ row_at now (get_or refs i r)
at_place now refs r i d within =
    get_or_default (map (row_at now) refs) i d (row_at now r) (omega (arith, within, length-map refs (row_at now)))
    ∙ get_or-map (row_at now) refs i r

module _ (column key : ℕ) where
  rows_by_total : IsTotalOrder (rows_by column key)
  rows_by_total = then_total (column_cmp_total column) (column_cmp_total key)

  keys_turn : (a b : List Value) → column_cmp key a b ≢ Equal → column_cmp key b a ≢ Equal
  keys_turn a b differ same = differ ((column_cmp_total key).antisymm a b ∙ ap ordering_reverse same)

  -- if no two rows have one key, no two tie, so after sorting each is less than the next
  IsStrictlySortedBy-in_order : (rows : List (List Value)) → RowsApart key rows → IsStrictlySortedBy (rows_by column key) (in_order (rows_by column key) rows)
  IsStrictlySortedBy-in_order rows apart =
      let sorted : List (List Value) = in_order (rows_by column key) rows in
      let still : RowsApart key sorted =
      AllPairs-permutation (λ x y. column_cmp key x y ≢ Equal) keys_turn rows sorted (IsPermutation-in_order (rows_by column key) rows) apart in
      IsStrictlySortedBy-from_neighbours rows_by_total sorted (λ k d within.
      let one : List Value = get_or sorted k d in
      let next : List Value = get_or sorted (suc k) d in
      let differ : rows_by column key one next ≢ Equal =
      λ tie. still k (suc k) d (omega arith) (omega (arith, within)) (then_second (column_cmp column one next) (column_cmp key one next) tie) in
      let not_back : is_lt (rows_by column key next one) ≡ false = rw (← add-one k) (IsSorted-in_order rows_by_total rows k d (omega arith) within) in
      less_from_no_tie (rows_by column key one next) (not_tied (rows_by column key one next) differ)
      (ap is_lt (sym (rows_by_total.antisymm next one)) ∙ not_back))

  module _ (now : Slots) where
    rows_apart : (refs : List RowRef) → KeysApart key now refs → RowsApart key (map (row_at now) refs)
    rows_apart refs apart i j d before within =
        let below : j < length refs = omega (arith, within, length-map refs (row_at now)) in
        let r : RowRef = record { slot = 0 } in
        rw (at_place now refs r i d (omega arith), at_place now refs r j d below) (apart i j r before below)

    rows_ordered : (walk : List RowRef) → AllPairs (λ a b. rows_by column key (row_at now a) (row_at now b) ≡ Less) walk
        → IsStrictlySortedBy (rows_by column key) (map (row_at now) walk)
    rows_ordered walk ordered = IsStrictlySortedBy-from_neighbours rows_by_total (map (row_at now) walk)
        (λ k d within.
        let below : suc k < length walk = omega (arith, within, length-map walk (row_at now)) in
        let r : RowRef = record { slot = 0 } in
        rw (at_place now walk r k d (omega (arith, below)), at_place now walk r (suc k) d below) (ordered k (suc k) r (omega arith) below))

in_from_permutation : (xs ys : List (List Value)) → IsPermutation xs ys → (row : List Value) → IsIn row xs → IsIn row ys
in_from_permutation xs ys moved row here = IsIn-from_Contains ys row (Contains-permutation xs ys row moved (Contains-from_IsIn xs row here))

-- The rows along a walk are all rows, in the order of the column and of the key.
pub walk_rows : (column : ℕ) (stored : StoredRows) (walk : List RowRef) → AreApart stored.key (slot_at stored.places)
    → InOrder stored.key stored.key (slot_at stored.places) stored.refs → IsWalk column stored walk
    → map (row_at (slot_at stored.places)) walk ≡ in_order (rows_by column stored.key) (rows_of stored)
walk_rows column stored walk apart by_key is_walk =
    let now : Slots = slot_at stored.places in
    let key : ℕ = stored.key in
    let sorted : List (List Value) = in_order (rows_by column key) (rows_of stored) in
    let moved : IsPermutation (map (row_at now) walk) sorted =
    IsPermutation-trans _ _ _ (IsPermutation-map (row_at now) walk stored.refs is_walk.same) (IsPermutation-in_order (rows_by column key) (rows_of stored)) in
    same_from_elements (rows_by_total column key) (map (row_at now) walk) sorted
    (rows_ordered column key now walk (strict_rows column key now walk is_walk.ordered (KeysApart-refs column key now walk apart is_walk.ordered)))
    (IsStrictlySortedBy-in_order column key (rows_of stored) (rows_apart column key now stored.refs (KeysApart-refs key key now stored.refs apart by_key)))
    (in_from_permutation _ _ moved) (in_from_permutation _ _ (IsPermutation-sym _ _ moved))

-- A TREE index of the table is a walk.
pub kept_walk : (stored : StoredRows) → IsKept stored.places.types stored.key (slot_at stored.places) stored.refs stored.indexes
    → (column place : ℕ) (x : Index) (own : ℕ) (tree : Held) → HasIndex stored.indexes place column kind.Tree → x ≡ slice_index_or stored.indexes place x
    → x ≡ Tree own tree → IsWalk column stored tree.refs
kept_walk stored kept column place x own tree has there is =
    let now : Slots = slot_at stored.places in
    let keeps : Keeps stored.key now stored.refs (Tree own tree) = subst (Keeps stored.key now stored.refs) (sym there ∙ is) (kept.keep place x has.0) in
    let same : own ≡ column = ap column_of (sym is ∙ there) ∙ (has.1 x).0 in
    record { ordered = subst (λ (n : ℕ). InOrder n stored.key now tree.refs) same keeps.0; same = keeps.1 }
