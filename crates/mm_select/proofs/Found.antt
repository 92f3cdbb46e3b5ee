-- The rows found along an index are those along the access path.
use Rattle.std.proofs.Common.{◌≡◌, ℕ, ◌<◌, ◌≤◌, ◌&&◌, Bool, true, List, [], length, get_or, Some, None, Option, refl, sym, ap, ◌∙◌, subst, arith}
use Rattle.std.specs.Prelude.{pos}
use Rattle.std.specs.List.{All, filter}
use Rattle.std.specs.List.Sorted.{IsPermutation}
use Rattle.std.specs.Option.{option_cmp, option_copied}
use Rattle.std.specs.Borrow.{Bor}
use Rattle.std.specs.Ordering.{is_eq, is_ge, is_le}
use Rattle.std.proofs.lemmas.List.Elements.{filter_passes}
use Rattle.std.proofs.lemmas.List.Sorted.{All-permutation, IsPermutation-sym}
use Rattle.std.proofs.lemmas.Option.{slice_get-get_or}
use Rattle.mm_order.specs.Probe.{entries_between, is_between}
use Rattle.mm_partition.specs.Places.{slot_at, row_in}
use Rattle.mm_query.specs.Atoms.{value_in}
use Rattle.mm_indexed.proofs.Typed.{HasTypes-length}
use Rattle.mm_indexed.specs.Kept.{IsKept, StoredRows}
use Rattle.mm_indexed.specs.Reads.{Appends, AreMatches, IsRange, has_value}
use Rattle.mm_row_order.specs.Ends.{end_place}
use Rattle.mm_row_order.specs.Refs.{Slots, place_by, row_at}
use Rattle.mm_select.proofs.Along.{all_live, appended, filter_moved, filter_same, on_column}
use Rattle.mm_select.specs.Accesses.{AreAlong, IsOfHash, IsOfKey, IsServed, has, is_along, is_from, is_up_to, lies_between, refs_along}
use Rattle.mm_select.specs.declared.access.Access.{Access}
use Rattle.mm_select.specs.declared.access.Access.TheVariants as access
use Rattle.mm_store.specs.Looked.{IsHash, IsIndexOn}
use Rattle.mm_store.specs.declared.index_ref.IndexRef.{IndexRef}
use Rattle.mm_store.specs.declared.index_ref.IndexRef.TheVariants.{Key, Tree, Hash}
use Rattle.mm_value.specs.Order.{value_cmp}
use Rattle.mm_value.specs.declared.row_ref.RowRef.{RowRef}
use Rattle.mm_value.specs.declared.values.Value.{Value}
use Rattle.mm_value.specs.declared.values.Value.TheVariants.{Int}

module _ (stored : StoredRows) (kept : IsKept stored.places.types stored.key (slot_at stored.places) stored.refs stored.indexes) where
  abbrev now : Slots
  now = slot_at stored.places

  -- The references are those of the rows that pass a test.
  abbrev pub Finds : (List Value → Bool) → List RowRef → Type 0
  Finds test found = IsPermutation found (filter (λ at. test (row_at now at)) stored.refs)

  module _ (column : ℕ) (within : column < length stored.places.types) where
    placed : (value : Value) → All (λ at. place_by column now value at ≡ value_cmp (value_in column (row_at now at)) value) stored.refs
    placed value k d below =
        let at : RowRef = get_or stored.refs k d in
        let live = all_live stored kept k d below in
        let wide : length (row_at now at) ≡ length stored.places.types =
        ap (λ c. length (row_in c)) live.1 ∙ HasTypes-length stored.places.types live.0 (kept.typed at live.0 live.1) in
        ap (λ o. option_cmp value_cmp o (Some value)) (slice_get-get_or (row_at now at) column (Int (pos 0)) (omega (arith, within, wide)))

    from_same : (low : Option Value) → All (λ at. is_ge (end_place column now low at) ≡ is_from low (value_in column (row_at now at))) stored.refs
    from_same None k d below = refl
    from_same (Some value) k d below = ap is_ge (placed value k d below)

    up_to_same : (high : Option Value) → All (λ at. is_le (end_place column now high at) ≡ is_up_to high (value_in column (row_at now at))) stored.refs
    up_to_same None k d below = refl
    up_to_same (Some value) k d below = ap is_le (placed value k d below)

    pub equal_same : (value : Value) → filter (has_value column now value) stored.refs ≡ filter (λ at. has column value (row_at now at)) stored.refs
    equal_same value =
        filter_same (has_value column now value) (λ at. has column value (row_at now at)) stored.refs
        (λ k d below. ap is_eq (placed value k d below))

    pub found_equal : (value : Value) (found : List RowRef) → AreMatches column now value stored.refs found → Finds (has column value) found
    found_equal value found are = subst (IsPermutation found) (equal_same value) are

    between_same : (low high : Option Value) → filter (is_between (end_place column now low) (end_place column now high)) stored.refs
        ≡ filter (λ at. lies_between column low high (row_at now at)) stored.refs
    between_same low high =
        filter_same (is_between (end_place column now low) (end_place column now high)) (λ at. lies_between column low high (row_at now at)) stored.refs
        (λ k d below. λ i. from_same low k d below i && up_to_same high k d below i)

    pub found_between : (low high : Option Value) (found : List RowRef) → IsRange column stored low high found → Finds (lies_between column low high) found
    found_between low high found (walk, is_walk, is) =
        let between : RowRef → Bool = is_between (end_place column now low) (end_place column now high) in
        subst (IsPermutation found) (between_same low high)
        (subst (λ (l : List RowRef). IsPermutation l (filter between stored.refs)) (sym is) (filter_moved between walk stored.refs is_walk.same))

  pub equal_along : (index : IndexRef) (column : ℕ) (value : Bor Value) (old new : List RowRef)
      → IsServed stored (access.Equal index column value) → old ≡ []
      → Appends (AreMatches column now value.now stored.refs) old new → AreAlong stored (access.Equal index column value) new
  equal_along index column value old new on none appends =
      found_equal column (on_column stored kept column index on) value.now new (appended (AreMatches column now value.now stored.refs) old new none appends)

  -- The references found in a HASH index are those along the access path.
  pub hash_along : (index : IndexRef) (column : ℕ) (value : Bor Value) (found : List RowRef) → IsServed stored (access.Equal index column value)
      → AreMatches column now value.now stored.refs found → AreAlong stored (access.Equal index column value) found
  hash_along index column value found on are = found_equal column (on_column stored kept column index on) value.now found are

  -- If at most four rows are along the access path, at most four rows have the value.
  pub few_along : (index : IndexRef) (column : ℕ) (value : Bor Value) → IsServed stored (access.Equal index column value)
      → length (refs_along stored (access.Equal index column value)) ≤ 4 → length (filter (has_value column now value.now) stored.refs) ≤ 4
  few_along index column value on few =
      subst (λ (l : List RowRef). length l ≤ 4) (sym (equal_same column (on_column stored kept column index on) value.now)) few

  -- The references found by the key are those along the access path.
  pub key_along : (index : IndexRef) (column : ℕ) (value : Bor Value) (found : List RowRef) → index ≡ Key
      → IsServed stored (access.Equal index column value) → AreMatches stored.key now value.now stored.refs found
      → AreAlong stored (access.Equal index column value) found
  key_along index column value found is on are =
      let own : column ≡ stored.key = subst (IsIndexOn stored column) is on in
      found_equal column (on_column stored kept column index on) value.now found
      (subst (λ n. AreMatches n now value.now stored.refs found) (sym own) are)

  pub range_along : (index : IndexRef) (column : ℕ) (low high : Option (Bor Value)) (old new : List RowRef)
      → IsServed stored (access.Range index column low high) → old ≡ []
      → Appends (IsRange column stored (option_copied low) (option_copied high)) old new → AreAlong stored (access.Range index column low high) new
  range_along index column low high old new on none appends =
      found_between column (on_column stored kept column index on.0) (option_copied low) (option_copied high) new
      (appended (IsRange column stored (option_copied low) (option_copied high)) old new none appends)

  -- The references of a range are those of the rows along it, in key order.
  pub between_filtered : (index : IndexRef) (column : ℕ) (low high : Option (Bor Value)) → IsServed stored (access.Range index column low high)
      → (walk found : List RowRef) → walk ≡ stored.refs
      → found ≡ entries_between (end_place column now (option_copied low)) (end_place column now (option_copied high)) walk
      → found ≡ refs_along stored (access.Range index column low high)
  between_filtered index column low high on walk found all is =
      is ∙ (ap (entries_between (end_place column now (option_copied low)) (end_place column now (option_copied high))) all
      ∙ between_same column (on_column stored kept column index on.0) (option_copied low) (option_copied high))

-- A look-up by key uses the index on the key.
pub key_looked_up : (index : IndexRef) (column : ℕ) (value : Bor Value) → IsOfKey (access.Equal index column value) → index ≡ Key
key_looked_up Key column value of_key = refl
key_looked_up (Tree place) column value of_key = absurd of_key
key_looked_up (Hash place) column value of_key = absurd of_key

pub hash_looked_up : (index : IndexRef) (column : ℕ) (value : Bor Value) → IsOfHash (access.Equal index column value) → IsHash index
hash_looked_up Key column value of_hash = absurd of_hash
hash_looked_up (Tree place) column value of_hash = absurd of_hash
hash_looked_up (Hash place) column value of_hash = tt

-- The rows of the found references are along the access path.
pub lie_along : (stored : StoredRows) (a : Access) (found : List RowRef) → AreAlong stored a found
    → All (λ at. is_along a (row_at (slot_at stored.places) at) ≡ true) found
lie_along stored a found same =
    let along : RowRef → Bool = λ at. is_along a (row_at (slot_at stored.places) at) in
    All-permutation (λ at. along at ≡ true) (filter along stored.refs) found (IsPermutation-sym found (filter along stored.refs) same)
    (filter_passes along stored.refs)
