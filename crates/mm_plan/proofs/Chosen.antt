-- The view finds the indexes, keys and references that the rules use.
use Rattle.std.proofs.Common.{◌≡◌, ◌≢◌, ◌↔◌, ℕ, ◌<◌, ◌≤◌, Bool, true, false, cond, List, [], ◌∷◌, length, get_or, Option, Some, None, refl, sym, ap, ◌∙◌}
use Rattle.std.proofs.Common.{subst, arith}
use Rattle.std.specs.Prelude.{◌==◌, ◌&&◌, IfNone, IfSome, IsTrue, nat_lt, position}
use Rattle.std.specs.Option.{option_and_then, option_map, option_map_or}
use Rattle.std.specs.List.{position_or_len}
use Rattle.std.proofs.lemmas.Bool.{and_parts, eq-eqb, eqb-true, false≢true, ne_eqb}
use Rattle.std.proofs.lemmas.Bool.Decides.{nat_tests}
use Rattle.std.proofs.lemmas.List.Sums.{fails_before_first, passes_at_first}
use Rattle.std.proofs.lemmas.Option.{cond_some}
use Rattle.mm_join.specs.declared.key.JoinKey.{JoinKey}
use Rattle.mm_plan.specs.Choosing.{count_at, first_hash, first_tree, hash_at, is_referred, refers_only, tree_at}
use Rattle.mm_indexed.specs.Kept.{StoredRows}
use Rattle.mm_indexed.specs.RowLists.{rows_of}
use Rattle.mm_indexed.specs.Index.{column_of, kind_of, IsOn}
use Rattle.mm_indexed.specs.Reads.{HasIndex}
use Rattle.mm_indexed.specs.Served.{is_on, same_kind}
use Rattle.mm_indexed.specs.declared.indexes.index.Index.{Index}
use Rattle.mm_schema.specs.declared.index.IndexKind.{IndexKind}
use Rattle.mm_schema.specs.declared.index.IndexKind.TheVariants as kind
use Rattle.mm_store.proofs.Joining.{some_at}
use Rattle.mm_store.proofs.Looked.{Sought, is_first_hash, is_first_tree, no_hash, no_tree}
use Rattle.mm_base.proofs.OnlyReference.{tells_only}
use Rattle.mm_base.specs.Columns.{IsReference}
use Rattle.mm_store.specs.Looked.{IsFirstSuch, IsHash, IsTree, created_before}
use Rattle.mm_store.specs.Tables.{IsAt, Tables, key_at}
use Rattle.mm_store.specs.declared.index_ref.IndexRef.{IndexRef}
use Rattle.mm_store.specs.declared.index_ref.IndexRef.TheVariants.{Key, Tree, Hash}
use Rattle.mm_indexed.proofs.Served.{same_kind_told, same_kind_itself}
use Rattle.mm_link.proofs.Referring.{agree}

-- ---- the index that was created first

-- At most one index with a property was created first, if the order of creation distinguishes all indexes that have it.
module _ (Holds : IndexRef → Type 0) (apart : (a b : IndexRef) → Holds a → Holds b → created_before a ≡ created_before b → a ≡ b) (stored : StoredRows)
    (column : ℕ) where
  same_first : (a b : Option IndexRef) → IsFirstSuch Holds stored column a → IsFirstSuch Holds stored column b → a ≡ b
  same_first None None first other = refl
  same_first None (Some y) first other = absurd (first y other.1 other.0)
  same_first (Some x) None first other = absurd (other x first.1 first.0)
  same_first (Some x) (Some y) first other =
      let below : created_before x ≤ created_before y = first.2 y other.0 other.1 in
      let above : created_before y ≤ created_before x = other.2 x first.0 first.1 in
      ap Some (apart x y first.1 other.1 (omega (arith, below, above)))

trees_apart : (a b : IndexRef) → IsTree a → IsTree b → created_before a ≡ created_before b → a ≡ b
trees_apart Key Key first other same = refl
trees_apart Key (Tree place) first other same = absurd (omega (arith, same))
trees_apart Key (Hash place) first other same = absurd other
trees_apart (Tree place) Key first other same = absurd (omega (arith, same))
trees_apart (Tree place) (Tree further) first other same = let is : place ≡ further = omega (arith, same) in ap Tree is
trees_apart (Tree place) (Hash further) first other same = absurd other
trees_apart (Hash place) b first other same = absurd first

hashes_apart : (a b : IndexRef) → IsHash a → IsHash b → created_before a ≡ created_before b → a ≡ b
hashes_apart Key b first other same = absurd first
hashes_apart (Tree place) b first other same = absurd first
hashes_apart (Hash place) Key first other same = absurd other
hashes_apart (Hash place) (Tree further) first other same = absurd other
hashes_apart (Hash place) (Hash further) first other same = let is : place ≡ further = omega (arith, same) in ap Hash is

any_of : {X : Type 0} (xs : List X) (place : ℕ) → place < length xs → X
any_of [] place within = absurd (omega arith)
any_of (x ∷ xs) place within = x

-- The index at the first position that passes is on the column and of the kind.
module _ (column : ℕ) (k : IndexKind) (indexes : List Index) where
  abbrev front : ℕ
  front = position_or_len (is_on column k) indexes

  is_on_told : (x : Index) → is_on column k x ≡ true → IsOn column k x
  is_on_told x passes =
      let told = and_parts (column_of x == column) (same_kind (kind_of x) k) passes in
      (eqb-true (column_of x) column told.0, same_kind_told (kind_of x) k told.1)

  on_is : (x : Index) → IsOn column k x → is_on column k x ≡ true
  on_is x on =
      ap (λ b. b && same_kind (kind_of x) k) (eq-eqb (column_of x) column on.0)
      ∙ ap (λ own. same_kind own k) on.1 ∙ same_kind_itself k

  found_on : (place : ℕ) → position (is_on column k) indexes ≡ Some place → HasIndex indexes place column k
  found_on place found =
      let told = cond_some (nat_lt front (length indexes)) front place found in
      let test : nat_lt front (length indexes) ≡ true = told.0 in
      let within : front < length indexes = grind (arith, nat_tests) in
      subst (λ n. HasIndex indexes n column k) told.1
      (within, λ d. is_on_told (get_or indexes front d) (passes_at_first (is_on column k) indexes d within))

  past : (b : Bool) → nat_lt front (length indexes) ≡ b → cond b (Some front) None ≡ None → length indexes ≤ front
  past true is none = cc
  past false is none = grind (arith, nat_tests)

  -- If no position passes, no index is on the column and of the kind.
  none_on : position (is_on column k) indexes ≡ None → (place : ℕ) → HasIndex indexes place column k → ⊥
  none_on none place has =
      let d : Index = any_of indexes place has.0 in
      let behind : length indexes ≤ front = past (nat_lt front (length indexes)) refl none in
      let within : place < length indexes = has.0 in
      let before : place < front = omega (arith, behind, within) in
      false≢true (sym (fails_before_first (is_on column k) indexes place d before) ∙ on_is (get_or indexes place d) (has.1 d))

  if_found : (found : Option ℕ) → found ≡ position (is_on column k) indexes → IfSome found (λ place. HasIndex indexes place column k)
  if_found None is = tt
  if_found (Some place) is = found_on place (sym is)

  if_none : (found : Option ℕ) → found ≡ position (is_on column k) indexes → IfNone found ((place : ℕ) → HasIndex indexes place column k → ⊥)
  if_none None is = none_on (sym is)
  if_none (Some place) is = tt

module _ (stored : StoredRows) (column : ℕ) where
  sought : (k : IndexKind) → Sought stored column k (position (is_on column k) stored.indexes)
  sought k = record {
    first = refl;
    found = if_found column k stored.indexes (position (is_on column k) stored.indexes) refl;
    none = if_none column k stored.indexes (position (is_on column k) stored.indexes) refl;
  }

  tree_of : column ≢ stored.key → (found : Option ℕ) → Sought stored column kind.Tree found → IsFirstSuch IsTree stored column (option_map Tree found)
  tree_of apart None found = no_tree stored column apart found
  tree_of apart (Some place) found = is_first_tree stored column apart place found

  hash_of : (found : Option ℕ) → Sought stored column kind.Hash found → IsFirstSuch IsHash stored column (option_map Hash found)
  hash_of None found = no_hash stored column found
  hash_of (Some place) found = is_first_hash stored column place found

  tree_by : (b : Bool) → (column == stored.key) ≡ b
      → IsFirstSuch IsTree stored column (cond b (Some Key) (option_map Tree (position (is_on column kind.Tree) stored.indexes)))
  tree_by true is = (eqb-true column stored.key is, tt, λ other on tree. omega arith)
  tree_by false is =
      tree_of (λ own. false≢true (sym is ∙ eq-eqb column stored.key own)) (position (is_on column kind.Tree) stored.indexes) (sought kind.Tree)

  -- The first tree is a tree on the column, created before all others.
  pub tree_told : IsFirstSuch IsTree stored column (first_tree column stored)
  tree_told = tree_by (column == stored.key) refl

  -- The first HASH index is a HASH index on the column, created before all others.
  pub hash_told : IsFirstSuch IsHash stored column (first_hash column stored)
  hash_told = hash_of (position (is_on column kind.Hash) stored.indexes) (sought kind.Hash)

-- ---- tables at positions

module _ (store : Tables) (table : ℕ) (within : table < length store.tables) where
  stored_there : (stored : StoredRows) × IsAt store table stored
  stored_there = some_at store.tables table within

  pub tree_at_is : (column : ℕ) (found : Option IndexRef) → ((stored : StoredRows) → IsAt store table stored → IsFirstSuch IsTree stored column found)
      → found ≡ tree_at store table column
  tree_at_is column found told =
      same_first IsTree trees_apart stored_there.0 column found (first_tree column stored_there.0) (told stored_there.0 stored_there.1)
      (tree_told stored_there.0 column)
      ∙ sym (ap (option_and_then (first_tree column)) stored_there.1)

  pub hash_at_is : (column : ℕ) (found : Option IndexRef) → ((stored : StoredRows) → IsAt store table stored → IsFirstSuch IsHash stored column found)
      → found ≡ hash_at store table column
  hash_at_is column found told =
      same_first IsHash hashes_apart stored_there.0 column found (first_hash column stored_there.0) (told stored_there.0 stored_there.1)
      (hash_told stored_there.0 column)
      ∙ sym (ap (option_and_then (first_hash column)) stored_there.1)

  pub count_at_is : (count : ℕ) → ((stored : StoredRows) → IsAt store table stored → count ≡ length (rows_of stored)) → count ≡ count_at store table
  count_at_is count told =
      told stored_there.0 stored_there.1 ∙ sym (ap (λ (o : Option StoredRows). length (option_map_or rows_of o [])) stored_there.1)

  pub key_at_is : (key : ℕ) → ((stored : StoredRows) → IsAt store table stored → key ≡ stored.key) → key ≡ key_at store.tables table
  key_at_is key told =
      told stored_there.0 stored_there.1 ∙ sym (ap (λ (o : Option StoredRows). option_map_or (λ (stored : StoredRows). stored.key) o 0) stored_there.1)

-- ---- references

-- If the test of a reference passes, the column refers only to the table.
pub refers_told : (store : Tables) (from column to : ℕ) → refers_only store (record { from = from; column = column; to = to }) ≡ true
    → IsReference store.links from column to
refers_told store from column to =
    (tells_only store.links from column to (refers_only store (record { from = from; column = column; to = to })) refl).0

-- A test that decides whether the column refers only to the table is the test of the reference.
pub refers_is : (store : Tables) (from column to : ℕ) (b : Bool) → (IsTrue b ↔ IsReference store.links from column to)
    → b ≡ refers_only store (record { from = from; column = column; to = to })
refers_is store from column to b told =
    let own = tells_only store.links from column to (refers_only store (record { from = from; column = column; to = to })) refl in
    agree b (refers_only store (record { from = from; column = column; to = to })) (λ is. own.1 (told.0 is)) (λ is. told.1 (own.0 is))

-- ---- keys of tables, and references to them

module _ (store : Tables) (outers : List ℕ) (table : ℕ) (key : JoinKey) (within : table < length store.tables) (own : ℕ)
    (told : (stored : StoredRows) → IsAt store table stored → own ≡ stored.key) where
  abbrev refers : Bool
  refers = refers_only store (record { from = get_or outers key.field.place 0; column = key.field.column; to = table })

  -- If the key's column is the table's key, the test of the reference decides.
  pub referred : key.column ≡ own → (b : Bool) → (IsTrue b ↔ IsReference store.links (get_or outers key.field.place 0) key.field.column table)
      → b ≡ is_referred store outers table key
  referred is b tells =
      refers_is store (get_or outers key.field.place 0) key.field.column table b tells
      ∙ sym (ap (λ test. test && refers) (eq-eqb key.column (key_at store.tables table) (is ∙ key_at_is store table within own told)))

  -- If the key's column is another one, the test fails.
  pub not_referred : key.column ≢ own → (key.column == own) ≡ is_referred store outers table key
  not_referred differs =
      apart own (λ is. is)
      ∙ sym (ap (λ test. test && refers) (apart (key_at store.tables table) (λ is. is ∙ sym (key_at_is store table within own told))))
    where
      apart : (n : ℕ) → (key.column ≡ n → key.column ≡ own) → (key.column == n) ≡ false
      apart n same = ne_eqb key.column n (λ is. differs (same is))
