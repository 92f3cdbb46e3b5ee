-- Changes of one table's rows among those of all tables.
use Rattle.std.proofs.Common.{◌≡◌, ℕ, Bool, true, false, cond, not, List, [], ◌∷◌, ◌++◌, Option, Some, None, filter, find, map, refl, sym, ap, subst, ◌∙◌}
use Rattle.std.specs.List.{AllByRecursion, IsDistinct, flat_map}
use Rattle.std.specs.Option.{option_map_or}
use Rattle.std.proofs.lemmas.List.{append-nil}
use Rattle.std.proofs.lemmas.Map.Keys.{IsDistinct-cons, IsDistinct-head, IsDistinct-tail}
use Rattle.mm_schema.specs.Columns.{key_place}
use Rattle.mm_schema.specs.Instance.{AreInKeyOrder, Instance, TableEdits, changed_instance, pairs_of, rows_named, without_rows}
use Rattle.mm_schema.specs.Name.{same_name}
use Rattle.mm_schema.specs.Rows.{IsInKeyOrder, Pair, changed, has_duplicate_keys}
use Rattle.mm_schema.specs.declared.table.Table.{Table}
use Rattle.mm_schema.proofs.ChangedRows.{IsInKeyOrder-changed}
use Rattle.mm_schema.proofs.NameLemmas.{differs_back, same_bytes}
use Rattle.mm_schema.proofs.Duplicates.{Row}

abbrev pub name_of : Table → List ℕ
name_of table = table.definition.name

-- the edits of a single table
abbrev pub edits_of_one : List ℕ → List Pair → List TableEdits
edits_of_one table pairs = record { table = table; pairs = pairs } ∷ []

pairs_by_test : (table : List ℕ) (pairs : List Pair) (b : Bool)
    → flat_map (λ (e : TableEdits). e.pairs) (cond b (edits_of_one table pairs) []) ≡ cond b pairs []
pairs_by_test table pairs true = append-nil pairs
pairs_by_test table pairs false = refl

-- They belong to the table with that name, ..
pub pairs_of-own : (table : List ℕ) (pairs : List Pair) (name : List ℕ) → same_name table name ≡ true → pairs_of name (edits_of_one table pairs) ≡ pairs
pairs_of-own table pairs name own = pairs_by_test table pairs (same_name table name) ∙ ap (λ b. cond b pairs []) own

-- .. and no other.
pub pairs_of-other : (table : List ℕ) (pairs : List Pair) (name : List ℕ) → same_name table name ≡ false → pairs_of name (edits_of_one table pairs) ≡ []
pairs_of-other table pairs name other = pairs_by_test table pairs (same_name table name) ∙ ap (λ b. cond b pairs []) other

-- none of the tables has the name
abbrev pub LackName : List ℕ → List Table → Type 0
LackName name tables = AllByRecursion (λ other. same_name name other ≡ false) (map name_of tables)

-- The tables after the one with a name have other names.
pub others_lack : (name : List ℕ) (table : Table) (tables : List Table) → same_name name (name_of table) ≡ true
    → IsDistinct same_name (map name_of (table ∷ tables)) → LackName name tables
others_lack name table tables own distinct =
    subst (λ n. LackName n tables) (sym (same_bytes name (name_of table) own)) (IsDistinct-head same_name (name_of table) (map name_of tables) distinct)

-- as many lists of rows as tables
abbrev pub AreBeside : List Table → Instance → Type 0
AreBeside [] [] = Unit {0}
AreBeside (table ∷ tables) (rows ∷ others) = AreBeside tables others
AreBeside [] (rows ∷ others) = ⊥
AreBeside (table ∷ tables) [] = ⊥

module _ (name : List ℕ) (pairs : List Pair) where
  -- Tables with other names keep their rows.
  pub changed_instance-others : (tables : List Table) (rows : Instance) → AreBeside tables rows → LackName name tables
      → changed_instance tables (edits_of_one name pairs) rows ≡ rows
  changed_instance-others [] [] beside lack = refl
  changed_instance-others (t ∷ ts) (r ∷ rs) beside lack = λ i.
      changed (key_place t.definition.columns) (pairs_of-other name pairs (name_of t) lack.0 i) r ∷ changed_instance-others ts rs beside lack.1 i
  changed_instance-others [] (r ∷ rs) beside lack = absurd beside
  changed_instance-others (t ∷ ts) [] beside lack = absurd beside

-- ---- in key order

pub beside_from_order : (tables : List Table) (rows : Instance) → AreInKeyOrder tables rows → AreBeside tables rows
beside_from_order [] [] order = tt
beside_from_order (t ∷ ts) (r ∷ rs) order = beside_from_order ts rs order.1
beside_from_order [] (r ∷ rs) order = absurd order
beside_from_order (t ∷ ts) [] order = absurd order

-- A new table has no rows, so its rows are in order.
pub AreInKeyOrder-push : (tables : List Table) (rows : Instance) (table : Table) (new : List Row) → AreInKeyOrder tables rows
    → IsInKeyOrder (key_place table.definition.columns) new
    → AreInKeyOrder (tables ++ table ∷ []) (rows ++ new ∷ [])
AreInKeyOrder-push [] [] table new order last = (last, tt)
AreInKeyOrder-push (t ∷ ts) (r ∷ rs) table new order last = (order.0, AreInKeyOrder-push ts rs table new order.1 last)
AreInKeyOrder-push [] (r ∷ rs) table new order last = absurd order
AreInKeyOrder-push (t ∷ ts) [] table new order last = absurd order

abbrev key_of : Option Table → ℕ
key_of table = option_map_or (λ t. key_place t.definition.columns) table 0

module _ (name : List ℕ) (pairs : List Pair) where
  -- the rows of the table with the name have distinct keys
  abbrev NoDuplicates : List Table → Instance → Type 0
  NoDuplicates tables rows = has_duplicate_keys (key_of (find (λ t. same_name name (name_of t)) tables)) (rows_named name tables rows) ≡ false

  first_or_others : (t : Table) (ts : List Table) (r : List Row) (rs : Instance) (b : Bool) → same_name name (name_of t) ≡ b
      → AreInKeyOrder (t ∷ ts) (r ∷ rs) → IsDistinct same_name (map name_of (t ∷ ts))
      → has_duplicate_keys (key_of (cond b (Some t) (find (λ u. same_name name (name_of u)) ts)))
      (cond b (changed (key_place t.definition.columns) (pairs_of (name_of t) (edits_of_one name pairs)) r)
      (rows_named name ts (changed_instance ts (edits_of_one name pairs) rs))) ≡ false
      → (NoDuplicates ts (changed_instance ts (edits_of_one name pairs) rs) → AreInKeyOrder ts (changed_instance ts (edits_of_one name pairs) rs))
      → AreInKeyOrder (t ∷ ts) (changed_instance (t ∷ ts) (edits_of_one name pairs) (r ∷ rs))
  first_or_others t ts r rs true own order distinct none rest = (
    IsInKeyOrder-changed (key_place t.definition.columns) (pairs_of (name_of t) (edits_of_one name pairs)) r order.0 none,
    subst (AreInKeyOrder ts) (sym (changed_instance-others name pairs ts rs (beside_from_order ts rs order.1) (others_lack name t ts own distinct))) order.1,
  )
  first_or_others t ts r rs false other order distinct none rest = (
    subst (λ ps. IsInKeyOrder (key_place t.definition.columns) (changed (key_place t.definition.columns) ps r))
        (sym (pairs_of-other name pairs (name_of t) other)) order.0,
    rest none,
  )

  -- Rows in key order are in key order after a change of one table, unless two of its rows then have the same key.
  pub AreInKeyOrder-changed : (tables : List Table) (rows : Instance) → AreInKeyOrder tables rows → IsDistinct same_name (map name_of tables)
      → NoDuplicates tables (changed_instance tables (edits_of_one name pairs) rows)
      → AreInKeyOrder tables (changed_instance tables (edits_of_one name pairs) rows)
  AreInKeyOrder-changed [] [] order distinct none = tt
  AreInKeyOrder-changed (t ∷ ts) (r ∷ rs) order distinct none =
      first_or_others t ts r rs (same_name name (name_of t)) refl order distinct none
      (AreInKeyOrder-changed ts rs order.1 (IsDistinct-tail same_name (name_of t) (map name_of ts) distinct))
  AreInKeyOrder-changed [] (r ∷ rs) order distinct none = absurd order
  AreInKeyOrder-changed (t ∷ ts) [] order distinct none = absurd order

-- ---- names

not_first : {X : Type 0} (b : Bool) (x : X) (found : Option X) → cond b (Some x) found ≡ None → (b ≡ false) × (found ≡ None)
not_first true x found none = cc
not_first false x found none = (refl, none)

module _ (table : Table) where
  names_before : (name : List ℕ) (tables : List Table) → AllByRecursion (λ other. same_name name other ≡ false) (map name_of tables)
      → same_name name (name_of table) ≡ false
      → AllByRecursion (λ other. same_name name other ≡ false) (map name_of (tables ++ table ∷ []))
  names_before name [] others last = (last, tt)
  names_before name (t ∷ ts) others last = (others.0, names_before name ts others.1 last)

  -- A new table with an unused name keeps all names distinct.
  pub IsDistinct-push : (tables : List Table) → find (λ t. same_name (name_of table) (name_of t)) tables ≡ None → IsDistinct same_name (map name_of tables)
      → IsDistinct same_name (map name_of (tables ++ table ∷ []))
  IsDistinct-push [] none distinct = IsDistinct-cons same_name (name_of table) [] tt distinct
  IsDistinct-push (t ∷ ts) none distinct =
      let others = not_first (same_name (name_of table) (name_of t)) t (find (λ u. same_name (name_of table) (name_of u)) ts) none in
      IsDistinct-cons same_name (name_of t) (map name_of (ts ++ table ∷ []))
      (names_before (name_of t) ts (IsDistinct-head same_name (name_of t) (map name_of ts) distinct) (differs_back (name_of table) (name_of t) others.0))
      (IsDistinct-push ts others.1 (IsDistinct-tail same_name (name_of t) (map name_of ts) distinct))

-- ---- a dropped table

module _ (gone : List ℕ) where
  abbrev stays : Table → Bool
  stays t = not (same_name gone (name_of t))

  lack_still : (name : List ℕ) (tables : List Table) → LackName name tables → LackName name (filter stays tables)
  lack_still name [] lack = tt
  lack_still name (t ∷ ts) lack = by (same_name gone (name_of t)) (lack_still name ts lack.1)
    where
      by : (b : Bool) → LackName name (filter stays ts) → LackName name (cond (not b) (t ∷ filter stays ts) (filter stays ts))
      by true later = later
      by false later = (lack.0, later)

  -- The names of the others are still distinct, ..
  pub IsDistinct-without : (tables : List Table) → IsDistinct same_name (map name_of tables) → IsDistinct same_name (map name_of (filter stays tables))
  IsDistinct-without [] distinct = distinct
  IsDistinct-without (t ∷ ts) distinct =
      by (same_name gone (name_of t)) (IsDistinct-without ts (IsDistinct-tail same_name (name_of t) (map name_of ts) distinct))
    where
      by : (b : Bool) → IsDistinct same_name (map name_of (filter stays ts))
          → IsDistinct same_name (map name_of (cond (not b) (t ∷ filter stays ts) (filter stays ts)))
      by true later = later
      by false later =
          IsDistinct-cons same_name (name_of t) (map name_of (filter stays ts))
          (lack_still (name_of t) ts (IsDistinct-head same_name (name_of t) (map name_of ts) distinct)) later

  -- .. and their rows are still in key order.
  pub AreInKeyOrder-without : (tables : List Table) (rows : Instance) → AreInKeyOrder tables rows
      → AreInKeyOrder (filter stays tables) (without_rows gone tables rows)
  AreInKeyOrder-without [] [] order = tt
  AreInKeyOrder-without (t ∷ ts) (r ∷ rs) order = by (same_name gone (name_of t)) (AreInKeyOrder-without ts rs order.1)
    where
      by : (b : Bool) → AreInKeyOrder (filter stays ts) (without_rows gone ts rs)
          → AreInKeyOrder (cond (not b) (t ∷ filter stays ts) (filter stays ts)) (cond b (without_rows gone ts rs) (r ∷ without_rows gone ts rs))
      by true later = later
      by false later = (order.0, later)
  AreInKeyOrder-without [] (r ∷ rs) order = absurd order
  AreInKeyOrder-without (t ∷ ts) [] order = absurd order

-- ---- other indexes

module _ (change : Table → Table) (same : (t : Table) → (change t).definition ≡ t.definition) where
  -- Tables that keep their definitions keep their names, ..
  pub names_kept : (tables : List Table) → map name_of (map change tables) ≡ map name_of tables
  names_kept [] = refl
  names_kept (t ∷ ts) = λ i. (same t i).name ∷ names_kept ts i

  -- .. and their rows are still in key order.
  pub AreInKeyOrder-kept : (tables : List Table) (rows : Instance) → AreInKeyOrder tables rows → AreInKeyOrder (map change tables) rows
  AreInKeyOrder-kept [] [] order = tt
  AreInKeyOrder-kept (t ∷ ts) (r ∷ rs) order =
      (subst (λ d. IsInKeyOrder (key_place d.columns) r) (sym (same t)) order.0, AreInKeyOrder-kept ts rs order.1)
  AreInKeyOrder-kept [] (r ∷ rs) order = absurd order
  AreInKeyOrder-kept (t ∷ ts) [] order = absurd order
