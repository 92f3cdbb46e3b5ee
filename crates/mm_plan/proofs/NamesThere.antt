-- The names in the lines of a plan are in the catalog.
use Rattle.std.proofs.Common.{◌≡◌, inl, inr, ℕ, zero, suc, ◌<◌, ◌≤◌, false, List, [], ◌∷◌, get_or, length, take, Option, Some, None, refl, sym, ap, ◌∙◌}
use Rattle.std.proofs.Common.{subst, arith}
use Rattle.std.specs.List.{All, list_any}
use Rattle.std.specs.Option.{option_map_or, unwrap_or}
use Rattle.std.specs.Prelude.{ℤ, pos, slice_get}
use Rattle.std.proofs.lemmas.List.{length-map, length-take-le}
use Rattle.std.proofs.lemmas.List.Elements.{All-from_get_or, All-get_or}
use Rattle.std.proofs.lemmas.Option.{get_or_from_slice_get, same_Some, slice_get-get_or, slice_get_within}
use Rattle.mm_join.specs.Keys.{key_beside, key_between, key_of}
use Rattle.mm_join.specs.declared.key.JoinKey.{JoinKey}
use Rattle.mm_plan.proofs.Allowed.{guarded}
use Rattle.mm_plan.proofs.Asking.{of_side}
use Rattle.mm_plan.proofs.Fields.{Stands, as_many, fails_at, stands, table_at, there}
use Rattle.mm_plan.specs.Kept.{AreKept}
use Rattle.mm_plan.specs.Naming.{AreNamesThere, IsFieldThere, IsHashThere, IsIndexThere, IsTableThere, Names, names_of}
use Rattle.mm_plan.specs.Steps.{AreSteps, Joins, Reaches}
use Rattle.mm_plan.specs.declared.step.Step.{Step}
use Rattle.mm_plan.specs.declared.step.Step.TheVariants as step
use Rattle.mm_query.specs.Plans.{is_equality}
use Rattle.mm_query.specs.Resolving.{IsAtomWithin, IsFieldWithin, column_of, places_in}
use Rattle.mm_query.specs.declared.atom.Atom.{Atom}
use Rattle.mm_query.specs.declared.atom.Operand.{Operand}
use Rattle.mm_query.specs.declared.atom.Operand.TheVariants.{Literal, Column, Shifted}
use Rattle.mm_query.specs.declared.bound_query.FieldPlace.{FieldPlace}
use Rattle.mm_query.specs.declared.query.FromItem.{FromItem}
use Rattle.mm_indexed.specs.Kept.{StoredRows}
use Rattle.mm_schema.specs.Schema.{Schema, columns_named, lacks_table, table_place}
use Rattle.mm_schema.specs.declared.table.Table.{Table}
use Rattle.mm_store.specs.Looked.{IsHash, IsIndexOn}
use Rattle.mm_store.specs.Tables.{IsAt, Tables}
use Rattle.mm_store.specs.declared.index_ref.IndexRef.{IndexRef}
use Rattle.mm_store.specs.declared.index_ref.IndexRef.TheVariants as index

module _ (schema : Schema) (store : Tables) (from : List FromItem) (kept : AreKept schema store)
    (tables : list_any (λ (item : FromItem). lacks_table item.table schema) from ≡ false) where
  abbrev names : Names
  names = names_of schema from

  abbrev table_in : ℕ → ℕ
  table_in place = get_or (places_in schema from) place 0

  so_many : length (places_in schema from) ≡ length from
  so_many = length-map from (λ (item : FromItem). unwrap_or (table_place item.table schema) 0)

  -- The table at a position in FROM is in the catalog, and in the store.
  record IsThere (place : ℕ) : Type 0 where
    item : FromItem
    item_is : slice_get from place ≡ Some item
    of : Stands schema store.tables item
    is : table_in place ≡ of.place

  is_there : (place : ℕ) → place < length from → IsThere place
  is_there place within =
      let (item, at) = there from place within in
      let of = stands schema store.tables kept.relations item (fails_at (λ (x : FromItem). lacks_table x.table schema) from place item tables at) in
      record { item = item; item_is = at; of = of; is = table_at schema store.tables from place item of at }

  pub tables_there : All (λ table. table < length store.tables) (places_in schema from)
  tables_there = All-from_get_or (λ table. table < length store.tables) (places_in schema from) 0 (λ place within.
      let own = is_there place (omega (arith, within, so_many)) in
      subst (λ table. table < length store.tables) (sym own.is) (slice_get_within store.tables own.of.place own.of.stored own.of.stored_is))

  module _ (place : ℕ) (within : place < length from) where
    abbrev own : IsThere place
    own = is_there place within

    stored_is : IsAt store (table_in place) own.of.stored
    stored_is = ap (slice_get store.tables) own.is ∙ own.of.stored_is

    holds_there : (Holds : Table → Type 0) → Holds own.of.table → IsTableThere names place Holds
    holds_there Holds holds = (omega (arith, within, so_many), own.of.table, ap (slice_get schema.tables) own.is ∙ own.of.table_is, holds)

    index_within : (number : ℕ) → number < length own.of.stored.indexes → IsTableThere names place (λ table. number < length table.indexes)
    index_within number inside =
        let many = as_many own.of.table.definition.columns own.of.table.indexes own.of.stored.indexes own.of.kept.indexes in
        holds_there (λ table. number < length table.indexes) (omega (arith, inside, many))

    -- An index of the relation is an index of the table.
    index_there : (index : IndexRef) → ((stored : StoredRows) → IsAt store (table_in place) stored → (column : ℕ) × IsIndexOn stored column index)
        → IsIndexThere names place index
    index_there index.Key on = tt
    index_there (index.Tree number) on = let (column, has) = on own.of.stored stored_is in index_within number has.0
    index_there (index.Hash number) on = let (column, has) = on own.of.stored stored_is in index_within number has.0

    hash_there : (index : IndexRef) → IsHash index → ((stored : StoredRows) → IsAt store (table_in place) stored → (column : ℕ) × IsIndexOn stored column index)
        → IsHashThere names place index
    hash_there index.Key is on = absurd is
    hash_there (index.Tree number) is on = absurd is
    hash_there (index.Hash number) is on = index_there (index.Hash number) on

  -- A field within the tables of FROM exists in the catalog.
  field_there : (field : FieldPlace) → IsFieldWithin schema from field → IsFieldThere names field
  field_there field inside = by (slice_get from field.place) refl inside
    where
      by : (o : Option FromItem) → slice_get from field.place ≡ o
          → field.column < option_map_or (λ (item : FromItem). length (columns_named item.table schema)) o 0 → IsFieldThere names field
      by None is inside = absurd (omega (arith, inside))
      by (Some item) is inside =
          let within = slice_get_within from field.place item is in
          let own = is_there field.place within in
          let same : item ≡ own.item = same_Some item own.item (sym is ∙ own.item_is) in
          let wide : length (columns_named item.table schema) ≡ length own.of.table.definition.columns =
          ap (λ (x : FromItem). length (columns_named x.table schema)) same
          ∙ ap (λ (t : Option Table). length (option_map_or (λ (u : Table). u.definition.columns) t [])) own.of.named in
          (within, holds_there field.place within (λ table. field.column < length table.definition.columns) (omega (arith, inside, wide)))

  -- ---- keys

  -- The key's column and field are within the tables of FROM.
  abbrev AreSidesWithin : ℕ → JoinKey → Type 0
  AreSidesWithin place key = IsFieldWithin schema from (record { place = place; column = key.column }) × IsFieldWithin schema from key.field

  module _ (place : ℕ) where
    between_within : (left right : FieldPlace) (by : ℤ) (key : JoinKey) → key_between place left right by ≡ Some key
        → IsFieldWithin schema from left → IsFieldWithin schema from right → AreSidesWithin place key
    between_within left right by key is left_within right_within =
        elim (of_side place left right by key is) [
          | inl own ↦ subst (AreSidesWithin place) (sym own.2)
              (subst (λ n. IsFieldWithin schema from (record { place = n; column = left.column })) own.0 left_within, right_within)
          | inr own ↦ subst (AreSidesWithin place) (sym own.2)
              (subst (λ n. IsFieldWithin schema from (record { place = n; column = right.column })) own.0 right_within, left_within)
        ]

    beside_within : (left : FieldPlace) (right : Operand FieldPlace) (key : JoinKey) → key_beside place left right ≡ Some key
        → IsFieldWithin schema from left → ((field : FieldPlace) → column_of right ≡ Some field → IsFieldWithin schema from field)
        → AreSidesWithin place key
    beside_within left (Literal value) key is left_within right_within = cc
    beside_within left (Column right) key is left_within right_within =
        between_within left right (pos 0) key is left_within (right_within right refl)
    beside_within left (Shifted right by) key is left_within right_within = between_within left right by key is left_within (right_within right refl)

  module _ (atoms : List (Atom FieldPlace)) (within : All (IsAtomWithin schema from) atoms) where
    key_within : (place atom : ℕ) (own : Atom FieldPlace) (key : JoinKey) → slice_get atoms atom ≡ Some own → key_of place own ≡ Some key
        → AreSidesWithin place key
    key_within place atom own key at is =
        let both = subst (IsAtomWithin schema from) (get_or_from_slice_get atoms atom own own at)
        (All-get_or (IsAtomWithin schema from) atoms atom own (slice_get_within atoms atom own at) within) in
        beside_within place own.left own.right key
        (guarded (is_equality own.comparison) (key_beside place own.left own.right) key is).1 both.0 both.1

    -- ---- steps

    first_there : (own : Step) → 0 < length from → ((stored : StoredRows) → IsAt store (table_in 0) stored → Reaches stored atoms own)
        → AreNamesThere names atoms 0 own
    first_there step.Scan some reaches = tt
    first_there (step.LookUp index atom) some reaches =
        index_there 0 some index (λ stored at. let (column, value, asked, on) = reaches stored at in (column, on))
    first_there (step.Range index atom) some reaches =
        index_there 0 some index (λ stored at. let (column, comparison, value, asked, on, tree) = reaches stored at in (column, on))
    first_there (step.Precomputed atom) some reaches = absurd (reaches (own 0 some).of.stored (stored_is 0 some))
    first_there (step.TreeMerge outer inner atom) some reaches = absurd (reaches (own 0 some).of.stored (stored_is 0 some))
    first_there (step.TreeJoin index atom) some reaches = absurd (reaches (own 0 some).of.stored (stored_is 0 some))
    first_there (step.HashJoin index atom) some reaches = absurd (reaches (own 0 some).of.stored (stored_is 0 some))
    first_there (step.BuiltHash atom) some reaches = absurd (reaches (own 0 some).of.stored (stored_is 0 some))
    first_there step.NestedLoops some reaches = absurd (reaches (own 0 some).of.stored (stored_is 0 some))

    module _ (place : ℕ) (inside : place < length from) (outers : List ℕ) (many : length outers ≡ place)
        (alone : (first : ℕ) → outers ≡ first ∷ [] → table_in 0 ≡ first) where
      joined_there : (own : Step) → Joins store atoms outers (table_in place) own → AreNamesThere names atoms place own
      joined_there step.NestedLoops joins = tt
      joined_there (step.BuiltHash atom) (own, key, at, has, holds) =
          let has_here : key_of place own ≡ Some key = ap (λ n. key_of n own) (sym many) ∙ has in
          (own, key, at, has_here, (field_there (record { place = place; column = key.column }) (key_within place atom own key at has_here).0).1)
      joined_there (step.HashJoin index atom) (own, key, at, has, (on, hash)) =
          hash_there place inside index hash (λ stored here. (key.column, on stored here))
      joined_there (step.TreeJoin index atom) (own, key, at, has, (on, tree)) =
          index_there place inside index (λ stored here. (key.column, on stored here))
      joined_there (step.TreeMerge outer inner atom) (own, key, at, has, (first, is, on_outer, tree_outer, on_inner, tree_inner)) =
          let some : 0 < length from = omega (arith, inside) in (
            index_there 0 some outer (λ stored here. (key.field.column, on_outer stored (subst (λ t. IsAt store t stored) (alone first is) here))),
            index_there place inside inner (λ stored here. (key.column, on_inner stored here)),
          )
      joined_there (step.Precomputed atom) (own, key, at, has, holds) =
          let has_here : key_of place own ≡ Some key = ap (λ n. key_of n own) (sym many) ∙ has in
          (own, key, at, has_here, field_there key.field (key_within place atom own key at has_here).1)
      joined_there step.Scan joins = absurd joins
      joined_there (step.LookUp index atom) joins = absurd joins
      joined_there (step.Range index atom) joins = absurd joins

    front_alone : (some : List ℕ) (n first : ℕ) → take (suc n) some ≡ first ∷ [] → get_or some 0 0 ≡ first
    front_alone [] n first is = cc
    front_alone (t ∷ some) n first is = ap (λ ts. get_or ts 0 0) is

    -- The names in the lines of the steps exist.
    pub names_there : (steps : List Step) → AreSteps store atoms (places_in schema from) steps → (place : ℕ) (own : Step) → slice_get steps place ≡ Some own
        → AreNamesThere names atoms place own
    names_there steps are zero own is =
        let within = slice_get_within steps 0 own is in
        let here : 0 < length (places_in schema from) = omega (arith, within, are.each) in
        first_there own (omega (arith, here, so_many))
        (λ stored at. are.first (table_in 0) own stored (slice_get-get_or (places_in schema from) 0 0 here) is at)
    names_there steps are (suc n) own is =
        let within = slice_get_within steps (suc n) own is in
        let here : suc n < length (places_in schema from) = omega (arith, within, are.each) in
        joined_there (suc n) (omega (arith, here, so_many)) (take (suc n) (places_in schema from))
        (length-take-le (suc n) (places_in schema from) (omega (arith, here))) (λ first is. front_alone (places_in schema from) n first is) own
        (are.further n (table_in (suc n)) own (slice_get-get_or (places_in schema from) (suc n) 0 here) is)

    pub as_many_steps : (steps : List Step) → AreSteps store atoms (places_in schema from) steps → length steps ≤ length from
    as_many_steps steps are = omega (arith, are.each, so_many)
