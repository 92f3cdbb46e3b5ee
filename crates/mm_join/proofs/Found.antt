-- The result of a look-up by value.
use Rattle.std.proofs.Common.{◌≡◌, ℕ, ◌<◌, Bool, true, false, cond, List, [], ◌∷◌, ◌++◌, Option, Some, get_or, length, map, refl, sym, ap, ◌∙◌, subst, arith}
use Rattle.std.specs.Prelude.{◌==◌, ℤ, FitsSigned, pos}
use Rattle.std.specs.Int.{w64}
use Rattle.std.specs.List.{All, count_by, filter}
use Rattle.std.specs.List.Sorted.{IsPermutation}
use Rattle.std.specs.Option.{option_cmp}
use Rattle.std.specs.Ordering.{is_eq}
use Rattle.std.proofs.lemmas.Bool.{eq-eqb}
use Rattle.std.proofs.lemmas.Cmp.{tied_itself}
use Rattle.std.proofs.lemmas.List.{length-map, map-append, map-id}
use Rattle.std.proofs.lemmas.List.Elements.{All-filter, All-head, All-tail, Contains-get_or}
use Rattle.std.proofs.lemmas.List.Sorted.{All-permutation, IsPermutation-map, IsPermutation-push_more, IsPermutation-refl, IsPermutation-sym}
use Rattle.std.proofs.lemmas.List.Sorted.{IsPermutation-trans, length_permutation}
use Rattle.std.proofs.lemmas.List.Sums.{length-filter}
use Rattle.std.proofs.lemmas.Option.{slice_get-get_or}
use Rattle.std.proofs.lemmas.Simd.{map-map}
use Rattle.mlhash.specs.Bag.{refs_of}
use Rattle.mm_partition.specs.Places.{AreRowsStorable, IsLive, slot_at, row_in}
use Rattle.mm_query.specs.Atoms.{value_in}
use Rattle.mm_query.proofs.Storables.{value_in_storable}
use Rattle.mm_indexed.proofs.Bags.{IsPermutation-filter}
use Rattle.mm_indexed.proofs.RefTests.{pair_from_test, pair_itself, same_pair}
use Rattle.mm_store.proofs.Storables.{row_storable}
use Rattle.mm_indexed.proofs.Typed.{HasTypes-length}
use Rattle.mm_indexed.specs.Kept.{IsKept, StoredRows}
use Rattle.mm_indexed.specs.Reads.{AreMatches, has_value}
use Rattle.mm_row_order.specs.Refs.{Slots, row_at}
use Rattle.mm_select.proofs.Along.{column_in, filter_moved}
use Rattle.mm_select.proofs.Fits.{filter-map}
use Rattle.mm_store.specs.Looked.{IsIndexOn}
use Rattle.mm_store.specs.declared.index_ref.IndexRef.{IndexRef}
use Rattle.mm_store.specs.declared.index_ref.IndexRef.TheVariants as index
use Rattle.mm_schema.specs.declared.index.IndexKind.TheVariants as kind
use Rattle.mm_value.proofs.Orders.{value_cmp_total}
use Rattle.mm_value.specs.Hash.{value_hash}
use Rattle.mm_value.specs.Order.{value_cmp}
use Rattle.mm_value.specs.Prefix.{order_prefix}
use Rattle.mm_value.specs.Storable.{IsStorable}
use Rattle.mm_value.specs.declared.row_ref.RowRef.{RowRef}
use Rattle.mm_value.specs.declared.values.Value.{Value}
use Rattle.mm_value.specs.declared.values.Value.TheVariants.{Int}
use Rattle.mm_join.specs.Entries.{entry_of}
use Rattle.mm_join.specs.Equated.{HaveMatches}
use Rattle.mm_join.specs.AccessMethods.{Finds, hashed_row, may_be}
use Rattle.mm_join.specs.declared.entries.Entry.{Entry}
use Rattle.mm_join.specs.declared.look_up.Among.{Among}
use Rattle.mm_join.specs.declared.look_up.Among.TheVariants as among

-- ---- lists

-- Two tests that agree on all elements filter a list in the same way.
filter_same : {X : Type 0} (p q : X → Bool) (xs : List X) → All (λ x. p x ≡ q x) xs → filter p xs ≡ filter q xs
filter_same p q [] all = refl
filter_same p q (x ∷ xs) all =
    λ i. cond (All-head (λ y. p y ≡ q y) x xs all i) (x ∷ filter_same p q xs (All-tail (λ y. p y ≡ q y) x xs all) i)
    (filter_same p q xs (All-tail (λ y. p y ≡ q y) x xs all) i)

-- As many references as rows pass.
pub counted : {X Y : Type 0} (p : Y → Bool) (f : X → Y) (xs : List X) → length (filter (λ x. p (f x)) xs) ≡ count_by p (map f xs)
counted p f xs = sym (length-map (filter (λ x. p (f x)) xs) f) ∙ (ap length (sym (filter-map p f xs)) ∙ length-filter p (map f xs))

-- ---- by a test of values

module _ (stored : StoredRows) (column : ℕ) (from : Among) (value : Value) (itself : may_be from value value ≡ true) where
  abbrev slots : Slots
  slots = slot_at stored.places

  -- the structure may return this row for the value
  abbrev taken : RowRef → Bool
  taken at = may_be from value (value_in column (row_at slots at))

  -- The references of exactly the rows that may be returned include all rows with the value.
  pub finds_taken : (found : List RowRef) → IsPermutation found (filter taken stored.refs) → Finds stored column from value found
  finds_taken found are = record {
    matches = (taken, λ at among is. ap (may_be from value) is ∙ itself, are);
    few = omega (
      arith,
      length_permutation found (filter taken stored.refs) are,
      counted (λ (row : List Value). may_be from value (value_in column row)) (row_at slots) stored.refs,
    );
  }

-- ---- in an index

module _ (stored : StoredRows) (kept : IsKept stored.places.types stored.key (slot_at stored.places) stored.refs stored.indexes) where
  -- All references are live.
  pub all_live : All (IsLive stored.places) stored.refs
  all_live k d within = (kept.held (get_or stored.refs k d)).0 (Contains-get_or stored.refs k d within)

  -- Each row has the column.
  placed : (column : ℕ) → column < length stored.places.types → (value : Value)
      → All (λ at. has_value column (slot_at stored.places) value at ≡ is_eq (value_cmp (value_in column (row_at (slot_at stored.places) at)) value))
      stored.refs
  placed column below value k d within =
      let at : RowRef = get_or stored.refs k d in
      let live = all_live k d within in
      let wide : column < length (row_at (slot_at stored.places) at) =
      omega (
        arith,
        below,
        HasTypes-length stored.places.types live.0 (kept.typed at live.0 live.1),
        ap (λ content. length (row_in content)) live.1,
      ) in
      ap (λ (o : Option Value). is_eq (option_cmp value_cmp o (Some value))) (slice_get-get_or (row_at (slot_at stored.places) at) column (Int (pos 0)) wide)

  pub column_there : (at : IndexRef) (column : ℕ) → IsIndexOn stored column at → column < length stored.places.types
  column_there index.Key column on = subst (λ n. n < length stored.places.types) (sym on) kept.key_in
  column_there (index.Tree place) column on = column_in stored kept place column kind.Tree on
  column_there (index.Hash place) column on = column_in stored kept place column kind.Hash on

  -- The references that an index finds for a value are those of all rows with it.
  pub finds_matches : (at : IndexRef) (column : ℕ) → column < length stored.places.types → (value : Value) (found : List RowRef)
      → AreMatches column (slot_at stored.places) value stored.refs found → Finds stored column (among.Index at) value found
  finds_matches at column below value found are =
      finds_taken stored column (among.Index at) value (ap is_eq (tied_itself value_cmp_total value)) found
      (subst (IsPermutation found)
      (filter_same (has_value column (slot_at stored.places) value)
      (λ at. is_eq (value_cmp (value_in column (row_at (slot_at stored.places) at)) value)) stored.refs (placed column below value))
      are)

  -- References of rows with a value are live.
  pub have_live : (column : ℕ) (value : Value) (found : List RowRef) → HaveMatches column (slot_at stored.places) value stored.refs found
      → All (IsLive stored.places) found
  have_live column value found (passes, all, same) =
      All-permutation (IsLive stored.places) (filter passes stored.refs) found (IsPermutation-sym found (filter passes stored.refs) same)
      (All-filter passes (IsLive stored.places) stored.refs all_live)

-- ---- in a hash table

module _ (column : ℕ) (now : Slots) (hash : ℕ) where
  -- the value of a row has the hash
  abbrev has_hash : RowRef → Bool
  has_hash at = value_hash (value_in column (row_at now at)) == hash

  refs_of_rows : (refs : List RowRef) → refs_of hash (map (hashed_row column now) refs) ≡ filter has_hash refs
  refs_of_rows refs =
      ap (map (λ (x : ℕ × RowRef). x.1)) (filter-map (λ (e : ℕ × RowRef). e.0 == hash) (hashed_row column now) refs)
      ∙ (map-map (λ (x : ℕ × RowRef). x.1) (hashed_row column now) (filter has_hash refs) ∙ map-id (filter has_hash refs))

  pub found_of_hash : (pairs : List (ℕ × RowRef)) (refs : List RowRef) → IsPermutation pairs (map (hashed_row column now) refs)
      → (found : List RowRef) → IsPermutation found (refs_of hash pairs) → IsPermutation found (filter has_hash refs)
  found_of_hash pairs refs all found are =
      let tests = λ (e : ℕ × RowRef). e.0 == hash in
      let passing : IsPermutation (filter tests pairs) (filter tests (map (hashed_row column now) refs)) =
      IsPermutation-filter same_pair pair_from_test pair_itself tests pairs (map (hashed_row column now) refs) all in
      let moved : IsPermutation (refs_of hash pairs) (refs_of hash (map (hashed_row column now) refs)) =
      IsPermutation-map (λ (e : ℕ × RowRef). e.1) (filter tests pairs) (filter tests (map (hashed_row column now) refs)) passing in
      subst (IsPermutation found) (refs_of_rows refs)
      (IsPermutation-trans found (refs_of hash pairs) (refs_of hash (map (hashed_row column now) refs)) are moved)

-- A hash table with one more row.
pub hashed_more : (column : ℕ) (now : Slots) (old new : List (ℕ × RowRef)) (done : List RowRef) (at : RowRef) (hash : ℕ)
    → IsPermutation old (map (hashed_row column now) done) → IsPermutation new ((hash, at) ∷ old)
    → hash ≡ value_hash (value_in column (row_at now at)) → IsPermutation new (map (hashed_row column now) (done ++ at ∷ []))
hashed_more column now old new done at hash held put is =
    let pairs : List (ℕ × RowRef) = map (hashed_row column now) done in
    subst (IsPermutation new) (sym (map-append (hashed_row column now) done (at ∷ [])))
    (IsPermutation-sym (pairs ++ hashed_row column now at ∷ []) new
    (IsPermutation-push_more pairs old new (hashed_row column now at) (IsPermutation-sym old pairs held)
    (IsPermutation-sym new (hashed_row column now at ∷ old) (subst (λ n. IsPermutation new ((n, at) ∷ old)) is put))))

-- A hash table of the rows of a walk contains all rows.
pub hashed_all : (column : ℕ) (now : Slots) (pairs : List (ℕ × RowRef)) (walk refs : List RowRef)
    → IsPermutation pairs (map (hashed_row column now) walk) → IsPermutation walk refs → IsPermutation pairs (map (hashed_row column now) refs)
hashed_all column now pairs walk refs held same =
    IsPermutation-trans pairs (map (hashed_row column now) walk) (map (hashed_row column now) refs) held
    (IsPermutation-map (hashed_row column now) walk refs same)

-- ---- along a walk

-- The entries with a prefix are those of the rows whose values have the prefix.
pub run_of_walk : (column : ℕ) (now : Slots) (prefix : ℕ) (entries : List Entry) (walk refs : List RowRef) → IsPermutation walk refs
    → entries ≡ map (entry_of column now) walk
    → IsPermutation (map (λ (entry : Entry). entry.at) (filter (λ entry. entry.prefix == prefix) entries))
    (filter (λ at. order_prefix (value_in column (row_at now at)) == prefix) refs)
run_of_walk column now prefix entries walk refs same is =
    let passes : RowRef → Bool = λ at. order_prefix (value_in column (row_at now at)) == prefix in
    let run : map (λ (entry : Entry). entry.at) (filter (λ entry. entry.prefix == prefix) entries) ≡ filter passes walk =
    ap (λ (es : List Entry). map (λ (entry : Entry). entry.at) (filter (λ entry. entry.prefix == prefix) es)) is
    ∙ (ap (map (λ (entry : Entry). entry.at)) (filter-map (λ (entry : Entry). entry.prefix == prefix) (entry_of column now) walk)
    ∙ (map-map (λ (entry : Entry). entry.at) (entry_of column now) (filter passes walk) ∙ map-id (filter passes walk))) in
    subst (λ xs. IsPermutation xs (filter passes refs)) (sym run) (filter_moved passes walk refs same)

-- ---- past 64 bits

none_kept : (refs : List RowRef) → filter (λ at. false) refs ≡ []
none_kept [] = refl
none_kept (at ∷ refs) = none_kept refs

-- No row has an integer past 64 bits, so an empty list includes all rows that do.
pub finds_none : (stored : StoredRows) (column : ℕ) (from : Among) (number : ℤ) (found : List RowRef) → AreRowsStorable stored.places
    → ¬ FitsSigned w64 number → found ≡ [] → Finds stored column from (Int number) found
finds_none stored column from number found all past empty = record {
  matches = (
    λ at. false,
    λ at among is.
        absurd (past (subst IsStorable is (value_in_storable column (row_at (slot_at stored.places) at) (row_storable stored.places at all)))),
    subst (λ l. IsPermutation l (filter (λ at. false) stored.refs)) (sym empty)
        (subst (λ l. IsPermutation [] l) (sym (none_kept stored.refs)) (IsPermutation-refl [])),
  );
  few = omega (arith, ap length empty);
}

-- ---- prefixes without an entry

-- If no entry of a walk has the prefix of a value, no row has the value.
pub none_along : (stored : StoredRows) (column : ℕ) (value : Value) (prefix : ℕ) (entries : List Entry) (walk : List RowRef) → IsPermutation walk stored.refs
    → entries ≡ map (entry_of column (slot_at stored.places)) walk → order_prefix value ≡ prefix
    → filter (λ (entry : Entry). entry.prefix == prefix) entries ≡ [] → HaveMatches column (slot_at stored.places) value stored.refs []
none_along stored column value prefix entries walk same is own none = (
  λ at. order_prefix (value_in column (row_at (slot_at stored.places) at)) == prefix,
  λ at among has. eq-eqb (order_prefix (value_in column (row_at (slot_at stored.places) at))) prefix (ap order_prefix has ∙ own),
  subst (λ (es : List Entry). IsPermutation (map (λ (entry : Entry). entry.at) es)
      (filter (λ at. order_prefix (value_in column (row_at (slot_at stored.places) at)) == prefix) stored.refs)) none
      (run_of_walk column (slot_at stored.places) prefix entries walk stored.refs same is),
)
