-- Foreign keys of the state by the places of tables and the relations there.
use Rattle.std.proofs.Common.{◌≡◌, ◌≢◌, ℕ, zero, suc, ◌+◌, ◌<◌, ◌==◌, ◌&&◌, ◌||◌, Bool, true, false, cond, List, [], ◌∷◌, Some, None, find, map, slice_get}
use Rattle.std.proofs.Common.{refl, sym, ap, subst, ◌∙◌, inl, inr, add-zero, zero-add, arith}
use Rattle.std.specs.List.{AllByRecursion, list_any}
use Rattle.std.specs.Option.{option_map_or, unwrap_or}
use Rattle.std.proofs.lemmas.Bool.{cases_Bool, eq-eqb, false≢true, ne_eqb}
use Rattle.std.proofs.lemmas.List.Folds.{list_any-append}
use Rattle.mm_indexed.specs.Kept.{StoredRows}
use Rattle.mm_indexed.specs.RowLists.{rows_of}
use Rattle.mm_schema.specs.Instance.{Instance, rows_named}
use Rattle.mm_schema.specs.Name.{same_name}
use Rattle.mm_schema.specs.References.{all_references, lacks_target_row, lose_targets, reference_at, references_behind, references_of}
use Rattle.mm_schema.specs.Rows.{Pair}
use Rattle.mm_schema.specs.Schema.{HasDistinctNames, Schema, columns_named, key_named, lacks_table, table_place}
use Rattle.mm_schema.specs.declared.reference.Reference.{Reference}
use Rattle.mm_schema.specs.declared.table.Table.{Table}
use Rattle.mm_schema.proofs.Instances.{name_of}
use Rattle.mm_schema.proofs.NameLemmas.{same_bytes, same_name_refl}
use Rattle.mm_schema.proofs.Places.{past_from_none, place_from_some, table_at_place}
use Rattle.mm_schema.proofs.Duplicates.{Row}
use Rattle.mm_query.proofs.Due.{lacks_nowhere}
use Rattle.mm_query.specs.State.{rows_in}
use Rattle.mm_store.specs.Tables.{finds_orphan, key_at, rows_at}
use Rattle.mm_plan.specs.Kept.{AreOf}
use Rattle.mm_txn.specs.Kept.{state_of}
use Rattle.mm_txn.proofs.IndexSteps.{own_place, slice_get_within}
use Rattle.mm_txn.proofs.DatabaseSteps.{key_is, rows_of_name, rows_there, some_there}

-- ---- lists

any-map : {X Y : Type 0} (p : Y → Bool) (f : X → Y) (xs : List X) → list_any p (map f xs) ≡ list_any (λ x. p (f x)) xs
any-map p f [] = refl
any-map p f (x ∷ xs) = ap (λ b. p (f x) || b) (any-map p f xs)

any-same : {X : Type 0} (P : X → Type 0) (p q : X → Bool) → ((x : X) → P x → p x ≡ q x) → (xs : List X) → AllByRecursion P xs
    → list_any p xs ≡ list_any q xs
any-same P p q same [] all = refl
any-same P p q same (x ∷ xs) all = λ i. same x all.0 i || any-same P p q same xs all.1 i

any-none : {X : Type 0} (p : X → Bool) → ((x : X) → p x ≡ false) → (xs : List X) → list_any p xs ≡ false
any-none p none [] = refl
any-none p none (x ∷ xs) = λ i. none x i || any-none p none xs i

-- A found element passes the test.
pub found_passes : {X : Type 0} (p : X → Bool) (xs : List X) (x : X) → find p xs ≡ Some x → p x ≡ true
found_passes p [] x e = cc
found_passes p (y ∷ ys) x e =
    elim (p y) as (λ b. p y ≡ b → cond b (Some y) (find p ys) ≡ Some x → p x ≡ true) [
      | true ↦ λ is h. let same : y ≡ x = cc in ap p (sym same) ∙ is
      | false ↦ λ is h. found_passes p ys x h
    ] refl e

-- ---- relations at places

module _ (schema : Schema) (rs : List StoredRows) (are : AreOf schema.tables rs) where
  -- The key and the rows of a name are those at its place.
  pub key_by_name : (name : List ℕ) (place : ℕ) → table_place name schema ≡ Some place → key_named name schema ≡ key_at rs place
  key_by_name name place placed =
      let stored = some_there rs place (rows_there schema rs are name place placed) in
      key_is schema rs are name place placed stored.0 stored.1 ∙ sym (ap (λ s. option_map_or (λ (t : StoredRows). t.key) s 0) stored.1)

  pub rows_by_name : (name : List ℕ) (place : ℕ) → table_place name schema ≡ Some place → rows_in (state_of schema rs) name ≡ rows_at rs place
  rows_by_name name place placed =
      let stored = some_there rs place (rows_there schema rs are name place placed) in
      rows_of_name schema rs are name place placed stored.0 stored.1 ∙ sym (ap (λ s. option_map_or rows_of s []) stored.1)

-- ---- rows that lack a target

module _ (schema : Schema) (rs : List StoredRows) (place : ℕ) (rows : List Row) where
  not_its_own : (i : ℕ) → i ≢ place → (refs : List (ℕ × List ℕ)) → list_any (finds_orphan rs place rows) (map (reference_at schema i) refs) ≡ false
  not_its_own i differs refs =
      any-map (finds_orphan rs place rows) (reference_at schema i) refs
      ∙ any-none _ (λ (r : ℕ × List ℕ). ap (λ b. b && list_any (lacks_target_row r.0 (key_at rs (unwrap_or (table_place r.1 schema) 0))
      (rows_at rs (unwrap_or (table_place r.1 schema) 0))) rows) (ne_eqb i place differs)) refs

  past_own : (i : ℕ) (ts : List Table) → place < i → list_any (finds_orphan rs place rows) (references_behind schema i ts) ≡ false
  past_own i [] past = refl
  past_own i (t ∷ ts) past =
      list_any-append (finds_orphan rs place rows) (map (reference_at schema i) (references_of t.definition.columns)) (references_behind schema (i + 1) ts)
      ∙ λ k. not_its_own i (λ same. absurd (omega (arith, same, past))) (references_of t.definition.columns) k || past_own (i + 1) ts (omega (arith, past)) k

  -- Only the references of the table at the place count.
  own_alone : (n i : ℕ) (ts : List Table) (table : Table) → slice_get ts n ≡ Some table → i + n ≡ place
      → list_any (finds_orphan rs place rows) (references_behind schema i ts)
      ≡ list_any (finds_orphan rs place rows) (map (reference_at schema place) (references_of table.definition.columns))
  own_alone n i [] table there sums = cc
  own_alone zero i (t ∷ ts) table there sums =
      let own : t ≡ table = cc in
      let here : i ≡ place = omega (arith, sums) in
      list_any-append (finds_orphan rs place rows) (map (reference_at schema i) (references_of t.definition.columns)) (references_behind schema (i + 1) ts)
      ∙ (λ k. list_any (finds_orphan rs place rows) (map (reference_at schema (here k)) (references_of (own k).definition.columns))
      || past_own (i + 1) ts (omega (arith, here)) k)
      ∙ or_none _
    where
      or_none : (b : Bool) → (b || false) ≡ b
      or_none true = refl
      or_none false = refl
  own_alone (suc n) i (t ∷ ts) table there sums =
      list_any-append (finds_orphan rs place rows) (map (reference_at schema i) (references_of t.definition.columns)) (references_behind schema (i + 1) ts)
      ∙ (λ k. not_its_own i (λ same. absurd (omega (arith, same, sums))) (references_of t.definition.columns) k
      || list_any (finds_orphan rs place rows) (references_behind schema (i + 1) ts))
      ∙ own_alone n (i + 1) ts table there (omega (arith, sums))

-- The columns' targets exist, and none is the table itself.
abbrev pub IsToOther : Schema → List ℕ → ℕ × List ℕ → Type 0
IsToOther schema name r = (lacks_table r.1 schema ≡ false) × (same_name name r.1 ≡ false)

-- Each column that refers to a table refers to an existing table other than its own.
abbrev pub AreToOthers : Schema → Type 0
AreToOthers schema = AllByRecursion (λ (t : Table). AllByRecursion (IsToOther schema (name_of t)) (references_of t.definition.columns)) schema.tables

-- The columns of the table at the place of a name refer to other existing tables, ..
pub others_at : (schema : Schema) (name : List ℕ) (place : ℕ) → table_place name schema ≡ Some place → (table : Table)
    → slice_get schema.tables place ≡ Some table → AreToOthers schema → AllByRecursion (IsToOther schema name) (references_of table.definition.columns)
others_at schema name place placed table there others =
    let own : same_name name (name_of table) ≡ true =
    found_passes (λ t. same_name name (name_of t)) schema.tables table (table_at_place name schema place placed ∙ there) in
    subst (λ n. AllByRecursion (IsToOther schema n) (references_of table.definition.columns)) (sym (same_bytes name (name_of table) own))
    (at_place schema.tables place others there)
  where
    at_place : (ts : List Table) (k : ℕ) → AllByRecursion (λ (t : Table). AllByRecursion (IsToOther schema (name_of t)) (references_of t.definition.columns)) ts
        → slice_get ts k ≡ Some table → AllByRecursion (IsToOther schema (name_of table)) (references_of table.definition.columns)
    at_place [] k all e = cc
    at_place (t ∷ ts) zero all e =
        let same : t ≡ table = cc in
        subst (λ (u : Table). AllByRecursion (IsToOther schema (name_of u)) (references_of u.definition.columns)) same all.0
    at_place (t ∷ ts) (suc k) all e = at_place ts k all.1 e

-- .. and all tables that columns refer to exist.
pub all_there : (schema : Schema) → AreToOthers schema
    → AllByRecursion (λ (t : Table). AllByRecursion (λ (r : ℕ × List ℕ). lacks_table r.1 schema ≡ false) (references_of t.definition.columns)) schema.tables
all_there schema others = each_table schema.tables others
  where
    each_column : (name : List ℕ) (refs : List (ℕ × List ℕ)) → AllByRecursion (IsToOther schema name) refs
        → AllByRecursion (λ (r : ℕ × List ℕ). lacks_table r.1 schema ≡ false) refs
    each_column name [] all = tt
    each_column name (r ∷ rs) all = (all.0.0, each_column name rs all.1)

    each_table : (ts : List Table) → AllByRecursion (λ (t : Table). AllByRecursion (IsToOther schema (name_of t)) (references_of t.definition.columns)) ts
        → AllByRecursion (λ (t : Table). AllByRecursion (λ (r : ℕ × List ℕ). lacks_table r.1 schema ≡ false) (references_of t.definition.columns)) ts
    each_table [] all = tt
    each_table (t ∷ ts) all = (each_column (name_of t) (references_of t.definition.columns) all.0, each_table ts all.1)

-- An existing name has a place.
pub some_place : (schema : Schema) (name : List ℕ) → lacks_table name schema ≡ false → (k : ℕ) × (table_place name schema ≡ Some k)
some_place schema name there =
    elim (table_place name schema) as (λ p. (table_place name schema ≡ p) → (k : ℕ) × (table_place name schema ≡ Some k)) [
      | None ↦ λ e. absurd (false≢true (sym there ∙ lacks_nowhere name schema e))
      | Some k ↦ λ e. (k, e)
    ] refl

module _ (schema : Schema) (rs : List StoredRows) (are : AreOf schema.tables rs) (name : List ℕ) (place : ℕ)
    (placed : table_place name schema ≡ Some place) (after : Instance) (rows : List Row) where
  -- The table that a column refers to exists, and keeps its rows.
  abbrev pub IsToKept : ℕ × List ℕ → Type 0
  IsToKept r = (lacks_table r.1 schema ≡ false) × (rows_named r.1 schema.tables after ≡ rows_in (state_of schema rs) r.1)

  lacks_same : (r : ℕ × List ℕ) → IsToKept r → finds_orphan rs place rows (reference_at schema place r)
      ≡ list_any (lacks_target_row r.0 (key_named r.1 schema) (rows_named r.1 schema.tables after)) rows
  lacks_same r is =
      let k = some_place schema r.1 is.0 in
      let to : unwrap_or (table_place r.1 schema) 0 ≡ k.0 = ap (λ p. unwrap_or p 0) k.1 in
      let key : key_at rs (unwrap_or (table_place r.1 schema) 0) ≡ key_named r.1 schema = ap (key_at rs) to ∙ sym (key_by_name schema rs are r.1 k.0 k.1) in
      let targets : rows_at rs (unwrap_or (table_place r.1 schema) 0) ≡ rows_named r.1 schema.tables after =
      ap (rows_at rs) to ∙ sym (rows_by_name schema rs are r.1 k.0 k.1) ∙ sym is.1 in
      ap (λ b. b && list_any (lacks_target_row r.0 (key_at rs (unwrap_or (table_place r.1 schema) 0)) (rows_at rs (unwrap_or (table_place r.1 schema) 0))) rows)
      (eq-eqb place place refl)
      ∙ λ i. list_any (lacks_target_row r.0 (key i) (targets i)) rows

  -- Rows of the table lack a target by the catalog's references exactly if they do in the state.
  pub lacks_are : (table : Table) → slice_get schema.tables place ≡ Some table → AllByRecursion IsToKept (references_of table.definition.columns)
      → list_any (finds_orphan rs place rows) (all_references schema)
      ≡ list_any (λ (r : ℕ × List ℕ). list_any (lacks_target_row r.0 (key_named r.1 schema) (rows_named r.1 schema.tables after)) rows)
      (references_of (columns_named name schema))
  lacks_are table there kept =
      let columns : columns_named name schema ≡ table.definition.columns =
      ap (λ t. option_map_or (λ (u : Table). u.definition.columns) t []) (table_at_place name schema place placed ∙ there) in
      own_alone schema rs place rows place 0 schema.tables table there (zero-add place)
      ∙ any-map (finds_orphan rs place rows) (reference_at schema place) (references_of table.definition.columns)
      ∙ any-same IsToKept _ _ lacks_same (references_of table.definition.columns) kept
      ∙ λ i. list_any (λ (r : ℕ × List ℕ). list_any (lacks_target_row r.0 (key_named r.1 schema) (rows_named r.1 schema.tables after)) rows)
      (references_of (sym columns i))

-- ---- keys to which other rows refer

-- A table has its own place.
pub placed_itself : (schema : Schema) → HasDistinctNames schema → (i : ℕ) (t : Table) → slice_get schema.tables i ≡ Some t
    → table_place (name_of t) schema ≡ Some i
placed_itself schema distinct i t here =
    let first = own_place schema.tables i t here distinct in
    elim (table_place (name_of t) schema) as (λ p. table_place (name_of t) schema ≡ p → table_place (name_of t) schema ≡ Some i) [
      | None ↦ λ e. absurd (let past = past_from_none _ schema.tables e in let within = slice_get_within schema.tables i t here in omega
          (arith, past, first, within))
      | Some k ↦ λ e. e ∙ ap (λ n. Some n) (place_from_some _ schema.tables k e ∙ first)
    ] refl

module _ (schema : Schema) (name : List ℕ) (place : ℕ) (placed : table_place name schema ≡ Some place) (table : Table)
    (there : slice_get schema.tables place ≡ Some table) where
  -- Only the name itself has its place.
  pub place_apart : (n : List ℕ) (k : ℕ) → table_place n schema ≡ Some k → same_name n name ≡ false → k ≢ place
  place_apart n k at differs same =
      let mine : same_name name (name_of table) ≡ true =
      found_passes (λ t. same_name name (name_of t)) schema.tables table (table_at_place name schema place placed ∙ there) in
      let its : same_name n (name_of table) ≡ true =
      found_passes (λ t. same_name n (name_of t)) schema.tables table (table_at_place n schema k at ∙ (ap (slice_get schema.tables) same ∙ there)) in
      let one : n ≡ name = same_bytes n (name_of table) its ∙ sym (same_bytes name (name_of table) mine) in
      false≢true (sym differs ∙ ap (λ m. same_name m name) one ∙ same_name_refl name)

  to_is : (n : List ℕ) → lacks_table n schema ≡ false → (unwrap_or (table_place n schema) 0 == place) ≡ same_name n name
  to_is n is =
      let k = some_place schema n is in
      let to : unwrap_or (table_place n schema) 0 ≡ k.0 = ap (λ p. unwrap_or p 0) k.1 in
      elim (cases_Bool (same_name n name)) [
        | inl same ↦
            let one : n ≡ name = same_bytes n name same in
            let at : Some k.0 ≡ Some place = sym k.1 ∙ (ap (λ m. table_place m schema) one ∙ placed) in
            let here : k.0 ≡ place = cc in
            ap (λ m. m == place) to ∙ eq-eqb k.0 place here ∙ sym same
        | inr other ↦ ap (λ m. m == place) to ∙ ne_eqb k.0 place (place_apart n k.0 k.1 other) ∙ sym other
      ]

  module _ (rows : ℕ → List Row) (after : Instance)
      (same : (i : ℕ) (t : Table) → slice_get schema.tables i ≡ Some t → rows i ≡ rows_named (name_of t) schema.tables after)
      (key : ℕ) (pairs : List Pair) where
    -- The reference is to the table, and the pairs delete a row to which one of the rows refers, or change its key.
    abbrev pub loses_by : Reference → Bool
    loses_by r = (r.to == place) && lose_targets r.column key (rows r.from) pairs

    -- one table's columns
    loses_same : (i : ℕ) (t : Table) → slice_get schema.tables i ≡ Some t
        → AllByRecursion (λ (r : ℕ × List ℕ). lacks_table r.1 schema ≡ false) (references_of t.definition.columns)
        → list_any loses_by (map (reference_at schema i) (references_of t.definition.columns))
        ≡ list_any (λ (r : ℕ × List ℕ). same_name r.1 name && lose_targets r.0 key (rows_named (name_of t) schema.tables after) pairs)
        (references_of t.definition.columns)
    loses_same i t here targets =
        any-map loses_by (reference_at schema i) (references_of t.definition.columns)
        ∙ any-same (λ (r : ℕ × List ℕ). lacks_table r.1 schema ≡ false) _ _
        (λ r is k. to_is r.1 is k && lose_targets r.0 key (same i t here k) pairs) (references_of t.definition.columns) targets

    -- Rows refer to keys by the catalog's references exactly if they do in the state.
    loses_from : (i : ℕ) (ts : List Table) → ((k : ℕ) (t : Table) → slice_get ts k ≡ Some t → slice_get schema.tables (i + k) ≡ Some t)
        → AllByRecursion (λ (t : Table). AllByRecursion (λ (r : ℕ × List ℕ). lacks_table r.1 schema ≡ false) (references_of t.definition.columns)) ts
        → list_any loses_by (references_behind schema i ts)
        ≡ list_any (λ (t : Table). list_any (λ (r : ℕ × List ℕ). same_name r.1 name && lose_targets r.0 key (rows_named (name_of t) schema.tables after) pairs)
        (references_of t.definition.columns)) ts
    loses_from i [] behind targets = refl
    loses_from i (t ∷ ts) behind targets =
        let here : slice_get schema.tables i ≡ Some t = subst (λ n. slice_get schema.tables n ≡ Some t) (add-zero i) (behind 0 t refl) in
        list_any-append loses_by (map (reference_at schema i) (references_of t.definition.columns)) (references_behind schema (i + 1) ts)
        ∙ λ k. loses_same i t here targets.0 k
        || loses_from (i + 1) ts (λ n u at. subst (λ m. slice_get schema.tables m ≡ Some u) (omega arith) (behind (suc n) u at)) targets.1 k

    pub loses_are : AllByRecursion (λ (t : Table). AllByRecursion (λ (r : ℕ × List ℕ). lacks_table r.1 schema ≡ false) (references_of t.definition.columns))
        schema.tables
        → list_any loses_by (all_references schema)
        ≡ list_any (λ (t : Table). list_any (λ (r : ℕ × List ℕ). same_name r.1 name && lose_targets r.0 key (rows_named (name_of t) schema.tables after) pairs)
        (references_of t.definition.columns)) schema.tables
    loses_are targets = loses_from 0 schema.tables (λ k t at. subst (λ n. slice_get schema.tables n ≡ Some t) (sym (zero-add k)) at) targets
