-- Columns refer to tables before their own.
use Rattle.std.proofs.Common.{◌≡◌, ℕ, zero, suc, ◌+◌, ◌<◌, ◌||◌, Bool, true, false, cond, ltb, not, List, [], ◌∷◌, ◌++◌, Some, None, length, map, slice_get}
use Rattle.std.proofs.Common.{refl, sym, subst, ◌∙◌, append_assoc, add-zero, arith}
use Rattle.std.specs.List.{All, AllByRecursion, list_any, position_or_len}
use Rattle.std.specs.Option.{unwrap_or}
use Rattle.std.proofs.lemmas.Bool.Decides.{nat_tests}
use Rattle.std.proofs.lemmas.List.{length_push, map-append}
use Rattle.std.proofs.lemmas.List.Elements.{All-append, All-cons, All-nil}
use Rattle.mm_schema.specs.Name.{same_name}
use Rattle.mm_schema.specs.References.{RefersBack, all_references, reference_at, references_behind, references_of}
use Rattle.mm_schema.specs.Schema.{Schema}
use Rattle.mm_schema.specs.declared.reference.Reference.{Reference}
use Rattle.mm_schema.specs.declared.table.Table.{Table}
use Rattle.mm_schema.proofs.Instances.{name_of}

-- the place of the first table with a name
abbrev pub first_of : List ℕ → List Table → ℕ
first_of name tables = position_or_len (λ t. same_name name (name_of t)) tables

-- The first table with a name is among the earlier tables if one of these has the name.
first_in_front : (name : List ℕ) (front ts : List Table) → list_any (same_name name) (map name_of front) ≡ true
    → first_of name (front ++ ts) < length front
first_in_front name [] ts some = cc
first_in_front name (t ∷ front) ts some = by (same_name name (name_of t)) some (first_in_front name front ts)
  where
    by : (b : Bool) → (b || list_any (same_name name) (map name_of front)) ≡ true
        → (list_any (same_name name) (map name_of front) ≡ true → first_of name (front ++ ts) < length front)
        → cond (not b) (1 + first_of name (front ++ ts)) 0 < length (t ∷ front)
    by true some later = omega arith
    by false some later = let within = later some in omega arith

module _ (schema : Schema) where
  -- The table that a column refers to is before a place.
  abbrev pub IsOlder : ℕ → ℕ × List ℕ → Type 0
  IsOlder place r = first_of r.1 schema.tables < place

  -- The columns of tables from a place on refer to tables before their own.
  abbrev AreOlder : ℕ → List Table → Type 0
  AreOlder place [] = Unit {0}
  AreOlder place (t ∷ ts) = AllByRecursion (IsOlder place) (references_of t.definition.columns) × AreOlder (place + 1) ts

  columns_older : (front ts : List Table) → schema.tables ≡ front ++ ts → (refs : List (ℕ × List ℕ))
      → AllByRecursion (λ (r : ℕ × List ℕ). list_any (same_name r.1) (map name_of front) ≡ true) refs → AllByRecursion (IsOlder (length front)) refs
  columns_older front ts are [] back = tt
  columns_older front ts are (r ∷ rs) back = (
    subst (λ (all : List Table). first_of r.1 all < length front) (sym are) (first_in_front r.1 front ts back.0),
    columns_older front ts are rs back.1,
  )

  tables_older : (front ts : List Table) → schema.tables ≡ front ++ ts → RefersBack (map name_of front) ts → AreOlder (length front) ts
  tables_older front [] are back = tt
  tables_older front (t ∷ ts) are back = (
    columns_older front (t ∷ ts) are (references_of t.definition.columns) back.0,
    subst (λ (n : ℕ). AreOlder n ts) (length_push front t)
        (tables_older (front ++ t ∷ []) ts (are ∙ sym (append_assoc front (t ∷ []) ts))
        (subst (λ (names : List (List ℕ)). RefersBack names ts) (sym (map-append name_of front (t ∷ []))) back.1)),
  )

  older_behind : (place : ℕ) (ts : List Table) (k : ℕ) (t : Table) → AreOlder place ts → slice_get ts k ≡ Some t
      → AllByRecursion (IsOlder (place + k)) (references_of t.definition.columns)
  older_behind place [] k t older there = cc
  older_behind place (u ∷ us) zero t older there =
      let same : u ≡ t = cc in
      subst (λ (n : ℕ). AllByRecursion (IsOlder n) (references_of t.definition.columns)) (sym (add-zero place))
      (subst (λ (v : Table). AllByRecursion (IsOlder place) (references_of v.definition.columns)) same older.0)
  older_behind place (u ∷ us) (suc k) t older there =
      subst (λ (n : ℕ). AllByRecursion (IsOlder n) (references_of t.definition.columns)) (omega arith) (older_behind (place + 1) us k t older.1 there)

  place_or_zero : (at len limit : ℕ) → at < limit → unwrap_or (cond (ltb at len) (Some at) None) 0 < limit
  place_or_zero at len limit below = grind (arith, nat_tests)

  columns_back : (place : ℕ) (refs : List (ℕ × List ℕ)) → AllByRecursion (IsOlder place) refs
      → All (λ (r : Reference). r.to < r.from) (map (reference_at schema place) refs)
  columns_back place [] older = All-nil (λ (r : Reference). r.to < r.from)
  columns_back place (r ∷ rs) older =
      All-cons (λ (r : Reference). r.to < r.from) (reference_at schema place r) (map (reference_at schema place) rs)
      (place_or_zero (first_of r.1 schema.tables) (length schema.tables) place older.0) (columns_back place rs older.1)

  tables_back : (place : ℕ) (ts : List Table) → AreOlder place ts → All (λ (r : Reference). r.to < r.from) (references_behind schema place ts)
  tables_back place [] older = All-nil (λ (r : Reference). r.to < r.from)
  tables_back place (t ∷ ts) older =
      All-append (λ (r : Reference). r.to < r.from) (map (reference_at schema place) (references_of t.definition.columns))
      (references_behind schema (place + 1) ts)
      (columns_back place (references_of t.definition.columns) older.0) (tables_back (place + 1) ts older.1)

  module _ (back : RefersBack [] schema.tables) where
    -- The columns of the table at a place refer to tables before it, ..
    pub older_at : (place : ℕ) (t : Table) → slice_get schema.tables place ≡ Some t → AllByRecursion (IsOlder place) (references_of t.definition.columns)
    older_at place t there =
        subst (λ (n : ℕ). AllByRecursion (IsOlder n) (references_of t.definition.columns)) (omega arith)
        (older_behind 0 schema.tables place t (tables_older [] schema.tables refl back) there)

    -- .. and so does each reference of the catalog.
    pub references_back : All (λ (r : Reference). r.to < r.from) (all_references schema)
    references_back = tables_back 0 schema.tables (tables_older [] schema.tables refl back)
