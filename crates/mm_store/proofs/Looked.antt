-- The first index on a column, and the references found along it.
use Rattle.std.proofs.Common.{◌≡◌, ◌≢◌, ℕ, ◌+◌, ◌<◌, ◌≤◌, Bool, true, false, cond, List, [], ◌∷◌, ◌++◌, length, get_or, Option, Some, None, ⊎_elim}
use Rattle.std.proofs.Common.{refl, sym, ◌∙◌, subst, arith}
use Rattle.std.specs.Prelude.{IfNone, IfSome, position, slice_get}
use Rattle.std.specs.List.{All, Contains, cons_option, filter, position_or_len}
use Rattle.std.specs.List.Sorted.{IsPermutation}
use Rattle.std.specs.declared.cmp.Ordering.{Ordering}
use Rattle.std.proofs.lemmas.Bool.{cases_lt, false≢true}
use Rattle.std.proofs.lemmas.List.Elements.{All-append, All-filter, Contains-get_or, filter_agree}
use Rattle.std.proofs.lemmas.List.Sorted.{All-permutation, IsPermutation-refl, IsPermutation-sym}
use Rattle.std.proofs.lemmas.List.Sums.{fails_before_first}
use Rattle.mm_order.specs.Probe.{entries_between, is_between}
use Rattle.mm_partition.specs.Places.{IsLive, slot_at}
use Rattle.mm_indexed.proofs.Apart.{KeysApart-refs}
use Rattle.mm_indexed.proofs.Bags.{IsPermutation-filter}
use Rattle.mm_indexed.proofs.OneKey.{none_of_key, one_of_key, not_apart}
use Rattle.mm_indexed.proofs.RefTests.{same_from_test, same_ref, test_from_same}
use Rattle.mm_indexed.specs.Kept.{IsKept, StoredRows}
use Rattle.mm_indexed.specs.Reads.{Appends, AreMatches, HasIndex, IsRange, IsWalk, has_value}
use Rattle.mm_row_order.specs.Ends.{end_place}
use Rattle.mm_row_order.specs.InOrder.{KeysApart}
use Rattle.mm_row_order.specs.Refs.{Slots, place_by, row_at}
use Rattle.mm_indexed.specs.Served.{is_on}
use Rattle.mm_indexed.specs.declared.indexes.index.Index.{Index}
use Rattle.mm_schema.specs.declared.index.IndexKind.{IndexKind}
use Rattle.mm_schema.specs.declared.index.IndexKind.TheVariants as kind
use Rattle.mm_value.specs.declared.row_ref.RowRef.{RowRef}
use Rattle.mm_value.specs.declared.values.Value.{Value}
use Rattle.mm_store.specs.Joined.{IsTable}
use Rattle.mm_store.specs.Looked.{IsFirstOn, IsFirstSuch, IsHash, IsIndexOn, IsTree, created_before}
use Rattle.mm_store.specs.declared.index_ref.IndexRef.{IndexRef}
use Rattle.mm_store.specs.declared.index_ref.IndexRef.TheVariants.{Key, Tree, Hash}
use Rattle.mm_indexed.proofs.Served.{test_from_IsOn}

-- ---- the first place of a list that passes

module _ {X : Type 0} (p : X → Bool) (xs : List X) where
  least_cases : (i k : ℕ) (b : Bool) → position_or_len p xs ≤ k → cond b (Some (position_or_len p xs)) None ≡ Some i → i ≤ k
  least_cases i k true below e =
      let is : position_or_len p xs ≡ i = cc in
      subst (λ n. n ≤ k) is below
  least_cases i k false below e = cc

  not_before : (k : ℕ) (d : X) → p (get_or xs k d) ≡ true → position_or_len p xs ≤ k
  not_before k d passes =
      ⊎_elim
      (λ (before : k < position_or_len p xs). absurd (false≢true (sym (fails_before_first p xs k d before) ∙ passes)))
      (λ (behind : position_or_len p xs ≤ k). behind)
      (cases_lt k (position_or_len p xs))

  position_least : (i k : ℕ) (d : X) → Some i ≡ position p xs → p (get_or xs k d) ≡ true → i ≤ k
  position_least i k d found passes =
      least_cases i k _ (not_before k d passes) (sym found)

-- ---- the first index on a column

pub any_of : (xs : List Index) (n : ℕ) → n < length xs → Index
any_of [] n within = absurd (omega arith)
any_of (x ∷ xs) n within = x

-- No index of a kind on the column is before the one that a search finds.
least_on : (column : ℕ) (k : IndexKind) (indexes : List Index) (found place : ℕ) → Some found ≡ position (is_on column k) indexes
    → HasIndex indexes place column k → found ≤ place
least_on column k indexes found place is has =
    let d : Index = any_of indexes place has.0 in
    position_least (is_on column k) indexes found place d is (test_from_IsOn column k (get_or indexes place d) (has.1 d))

-- the result of a search for an index of a kind
pub record Sought (stored : StoredRows) (column : ℕ) (k : IndexKind) (result : Option ℕ) : Type 0 where
  pub first : result ≡ position (is_on column k) stored.indexes
  pub found : IfSome result (λ place. HasIndex stored.indexes place column k)
  pub none : IfNone result ((place : ℕ) → HasIndex stored.indexes place column k → ⊥)

module _ (stored : StoredRows) (column : ℕ) (apart : column ≢ stored.key) where
  first_tree : (tree : ℕ) → Sought stored column kind.Tree (Some tree)
      → ((hash : ℕ) → HasIndex stored.indexes hash column kind.Hash → tree ≤ hash) → IsFirstOn stored column (Some (Tree tree))
  first_tree tree sought before = (sought.found, least)
    where
      least : (other : IndexRef) → IsIndexOn stored column other → tree + 1 ≤ created_before other
      least Key is = absurd (apart is)
      least (Tree place) has = omega (arith, least_on column kind.Tree stored.indexes tree place sought.first has)
      least (Hash place) has = omega (arith, before place has)

  first_hash : (hash : ℕ) → Sought stored column kind.Hash (Some hash)
      → ((tree : ℕ) → HasIndex stored.indexes tree column kind.Tree → hash ≤ tree) → IsFirstOn stored column (Some (Hash hash))
  first_hash hash sought before = (sought.found, least)
    where
      least : (other : IndexRef) → IsIndexOn stored column other → hash + 1 ≤ created_before other
      least Key is = absurd (apart is)
      least (Tree place) has = omega (arith, before place has)
      least (Hash place) has = omega (arith, least_on column kind.Hash stored.indexes hash place sought.first has)

  pub tree_before_hash : (tree hash : ℕ) → tree < hash → Sought stored column kind.Tree (Some tree) → Sought stored column kind.Hash (Some hash)
      → IsFirstOn stored column (Some (Tree tree))
  tree_before_hash tree hash before trees hashes =
      first_tree tree trees (λ place has. omega (arith, before, least_on column kind.Hash stored.indexes hash place hashes.first has))

  pub hash_before_tree : (tree hash : ℕ) → hash ≤ tree → Sought stored column kind.Tree (Some tree) → Sought stored column kind.Hash (Some hash)
      → IsFirstOn stored column (Some (Hash hash))
  hash_before_tree tree hash before trees hashes =
      first_hash hash hashes (λ place has. omega (arith, before, least_on column kind.Tree stored.indexes tree place trees.first has))

  pub tree_alone : (tree : ℕ) → Sought stored column kind.Tree (Some tree) → Sought stored column kind.Hash None
      → IsFirstOn stored column (Some (Tree tree))
  tree_alone tree trees hashes = first_tree tree trees (λ place has. absurd (hashes.none place has))

  pub hash_alone : (hash : ℕ) → Sought stored column kind.Tree None → Sought stored column kind.Hash (Some hash)
      → IsFirstOn stored column (Some (Hash hash))
  hash_alone hash trees hashes = first_hash hash hashes (λ place has. absurd (trees.none place has))

  pub none_there : Sought stored column kind.Tree None → Sought stored column kind.Hash None
      → (index : IndexRef) → IsIndexOn stored column index → ⊥
  none_there trees hashes Key is = apart is
  none_there trees hashes (Tree place) has = trees.none place has
  none_there trees hashes (Hash place) has = hashes.none place has

-- ---- the first index of a kind on a column

module _ (stored : StoredRows) (column : ℕ) where
  pub is_first_tree : column ≢ stored.key → (found : ℕ) → Sought stored column kind.Tree (Some found)
      → IsFirstSuch IsTree stored column (Some (Tree found))
  is_first_tree apart found sought = (sought.found, tt, least)
    where
      least : (other : IndexRef) → IsIndexOn stored column other → IsTree other → found + 1 ≤ created_before other
      least Key is tree = absurd (apart is)
      least (Tree place) has tree = omega (arith, least_on column kind.Tree stored.indexes found place sought.first has)
      least (Hash place) has tree = absurd tree

  pub no_tree : column ≢ stored.key → Sought stored column kind.Tree None → (index : IndexRef) → IsTree index → IsIndexOn stored column index → ⊥
  no_tree apart sought Key tree is = apart is
  no_tree apart sought (Tree place) tree has = sought.none place has
  no_tree apart sought (Hash place) tree has = tree

  pub is_first_hash : (found : ℕ) → Sought stored column kind.Hash (Some found) → IsFirstSuch IsHash stored column (Some (Hash found))
  is_first_hash found sought = (sought.found, tt, least)
    where
      least : (other : IndexRef) → IsIndexOn stored column other → IsHash other → found + 1 ≤ created_before other
      least Key is hash = absurd hash
      least (Tree place) has hash = absurd hash
      least (Hash place) has hash = omega (arith, least_on column kind.Hash stored.indexes found place sought.first has)

  pub no_hash : Sought stored column kind.Hash None → (index : IndexRef) → IsHash index → IsIndexOn stored column index → ⊥
  no_hash sought Key hash is = hash
  no_hash sought (Tree place) hash has = hash
  no_hash sought (Hash place) hash has = sought.none place has

-- ---- along a tree

-- The references in key order are a walk along the key.
pub walk_of_keys : (stored : StoredRows) → IsKept stored.places.types stored.key (slot_at stored.places) stored.refs stored.indexes
    → IsWalk stored.key stored stored.refs
walk_of_keys stored kept = record { ordered = kept.by_key; same = IsPermutation-refl stored.refs }

-- ---- rows with one value

-- The range from a value to itself has exactly the rows with the value.
pub matches_in_range : (column : ℕ) (stored : StoredRows) (value : Value) (found : List RowRef) → IsRange column stored (Some value) (Some value) found
    → AreMatches column (slot_at stored.places) value stored.refs found
matches_in_range column stored value found (walk, is_walk, is) =
    let slots : Slots = slot_at stored.places in
    let place : RowRef → Ordering = place_by column slots value in
    let met : RowRef → Bool = has_value column slots value in
    subst (λ (xs : List RowRef). IsPermutation xs (filter met stored.refs))
    (sym (is ∙ filter_agree (is_between place place) met (λ at. not_apart (place at)) walk))
    (IsPermutation-filter same_ref same_from_test (λ a. test_from_same a a refl) met walk stored.refs is_walk.same)

-- ---- the row with a key

module _ (stored : StoredRows) (table : IsTable stored) where
  keys_apart : KeysApart stored.key (slot_at stored.places) stored.refs
  keys_apart = KeysApart-refs stored.key stored.key (slot_at stored.places) stored.refs table.apart table.kept.by_key

  -- A search by the key finds all rows with the value.
  pub found_of_key : (value : Value) (found : Option RowRef) → IfSome found (Contains stored.refs)
      → IfSome found (λ at. slice_get (row_at (slot_at stored.places) at) stored.key ≡ Some value)
      → IfNone found (All (λ at. slice_get (row_at (slot_at stored.places) at) stored.key ≢ Some value) stored.refs)
      → AreMatches stored.key (slot_at stored.places) value stored.refs (cons_option found [])
  found_of_key value found held fits none =
      matches_in_range stored.key stored value (cons_option found []) (stored.refs, walk_of_keys stored table.kept, range_of_found found held fits none)
    where
      range_of_found : (found : Option RowRef) → IfSome found (Contains stored.refs)
          → IfSome found (λ at. slice_get (row_at (slot_at stored.places) at) stored.key ≡ Some value)
          → IfNone found (All (λ at. slice_get (row_at (slot_at stored.places) at) stored.key ≢ Some value) stored.refs)
          → cons_option found []
          ≡ entries_between (end_place stored.key (slot_at stored.places) (Some value)) (end_place stored.key (slot_at stored.places) (Some value)) stored.refs
      range_of_found (Some at) held fits none = sym (one_of_key stored.key (slot_at stored.places) stored.refs keys_apart value at held fits)
      range_of_found None held fits none = sym (none_of_key stored.key (slot_at stored.places) stored.refs keys_apart value none)

  pub found_live : (found : Option RowRef) → IfSome found (Contains stored.refs) → IfSome found (IsLive stored.places)
  found_live (Some at) held = (table.kept.held at).0 held
  found_live None held = tt

-- The references found along an index are live, ..
all_live : (stored : StoredRows) → IsKept stored.places.types stored.key (slot_at stored.places) stored.refs stored.indexes
    → All (IsLive stored.places) stored.refs
all_live stored kept = λ k d within. (kept.held (get_or stored.refs k d)).0 (Contains-get_or stored.refs k d within)

-- .. those with one value ..
pub live_matches : (stored : StoredRows) → IsKept stored.places.types stored.key (slot_at stored.places) stored.refs stored.indexes
    → (column : ℕ) (value : Value) (old new : List RowRef) → Appends (AreMatches column (slot_at stored.places) value stored.refs) old new
    → All (IsLive stored.places) old → All (IsLive stored.places) new
live_matches stored kept column value old new (found, is, are) live =
    let met : RowRef → Bool = has_value column (slot_at stored.places) value in
    subst (All (IsLive stored.places)) (sym is) (All-append (IsLive stored.places) old found live
    (All-permutation (IsLive stored.places) (filter met stored.refs) found (IsPermutation-sym found (filter met stored.refs) are)
    (All-filter met (IsLive stored.places) stored.refs (all_live stored kept))))

-- .. and those between two.
pub live_range : (stored : StoredRows) → IsKept stored.places.types stored.key (slot_at stored.places) stored.refs stored.indexes
    → (column : ℕ) (low high : Option Value) (old new : List RowRef) → Appends (IsRange column stored low high) old new
    → All (IsLive stored.places) old → All (IsLive stored.places) new
live_range stored kept column low high old new (found, is, (walk, is_walk, cut)) live =
    let met : RowRef → Bool = is_between (end_place column (slot_at stored.places) low) (end_place column (slot_at stored.places) high) in
    subst (All (IsLive stored.places)) (sym is) (All-append (IsLive stored.places) old found live
    (subst (All (IsLive stored.places)) (sym cut) (All-filter met (IsLive stored.places) walk
    (All-permutation (IsLive stored.places) stored.refs walk (IsPermutation-sym walk stored.refs is_walk.same) (all_live stored kept)))))

-- The range along the key.
pub range_of_keys : (stored : StoredRows) → IsKept stored.places.types stored.key (slot_at stored.places) stored.refs stored.indexes
    → (low high : Option Value) (old new : List RowRef)
    → new ≡ old ++ entries_between (end_place stored.key (slot_at stored.places) low) (end_place stored.key (slot_at stored.places) high) stored.refs
    → Appends (IsRange stored.key stored low high) old new
range_of_keys stored kept low high old new is = (
  entries_between (end_place stored.key (slot_at stored.places) low) (end_place stored.key (slot_at stored.places) high) stored.refs,
  is,
  (stored.refs, walk_of_keys stored kept, refl),
)

pub appends_matches : (column : ℕ) (stored : StoredRows) (value : Value) (old new : List RowRef)
    → Appends (IsRange column stored (Some value) (Some value)) old new
    → Appends (AreMatches column (slot_at stored.places) value stored.refs) old new
appends_matches column stored value old new (found, is, range) = (found, is, matches_in_range column stored value found range)
