-- The references that the store keeps are those of the catalog.
use Rattle.std.proofs.Common.{◌≡◌, ◌≢◌, ℕ, suc, ◌+◌, ◌<◌, ◌==◌, ◌&&◌, true, false, cond, not, List, [], ◌∷◌, ◌++◌, Option, Some, None, inl, inr, filter}
use Rattle.std.proofs.Common.{length, map, slice_get, refl, sym, ap, subst, ◌∙◌, append-nil, arith}
use Rattle.std.specs.List.{All, AllByRecursion, Contains, list_any, remove}
use Rattle.std.specs.Option.{option_map_or, unwrap_or}
use Rattle.std.proofs.lemmas.Bool.Decides.{nat_tests}
use Rattle.std.proofs.lemmas.Bool.{cases_Bool, eq-eqb, eqb-true, or_parts}
use Rattle.std.proofs.lemmas.List.{length_push, map-append}
use Rattle.std.proofs.lemmas.List.Elements.{All-append, All-cons, All-from_recursion, All-nil, Contains-append_right, filter-append, recursion_from_All}
use Rattle.mm_schema.specs.Columns.{refers_to, target_of}
use Rattle.mm_schema.specs.Indexes.{table_with_index, table_without_index, with_index, without_index}
use Rattle.mm_schema.specs.Name.{same_name}
use Rattle.mm_schema.specs.References.{HasTargets, RefersToOthers, above, all_references, in_front, moved_up, reference_at, references_behind}
use Rattle.mm_schema.specs.References.{references_from, references_of}
use Rattle.mm_schema.specs.Refused.{first_refusal}
use Rattle.mm_schema.specs.Schema.{HasDistinctNames, Schema, drop_table_conditions, is_other_referring_to, lacks_table, lacks_target, reads_table}
use Rattle.mm_schema.specs.Schema.{table_conditions, table_place, with_table, without_table}
use Rattle.mm_schema.specs.declared.column.Column.{Column}
use Rattle.mm_schema.specs.declared.index.IndexDef.{IndexDef}
use Rattle.mm_schema.specs.declared.reference.Reference.{Reference}
use Rattle.mm_schema.specs.declared.table.Table.{Table}
use Rattle.mm_schema.specs.declared.table.TableDef.{TableDef}
use Rattle.mm_schema.proofs.AllReferences.{IsReferenceWithin, others_added, others_indexed, others_left, others_unindexed, reference_there}
use Rattle.mm_schema.proofs.AllReferences.{references_with_index, references_with_table, references_without_index, references_without_table}
use Rattle.mm_schema.proofs.Instances.{name_of}
use Rattle.mm_schema.proofs.NameLemmas.{differs_back, same_bytes}
use Rattle.mm_schema.proofs.References.{same_with, same_without, second_none, targets_added, targets_indexed, targets_left, targets_unindexed}
use Rattle.mm_laws.proofs.OlderTables.{older_with_definitions, older_with_table, older_without_table}
use Rattle.mm_base.specs.Bases.{references_without}
use Rattle.mm_base.specs.Columns.{IsFrom}
use Rattle.mm_store.specs.Tables.{Tables}
use Rattle.mm_plan.specs.Kept.{AreKept, AreOf}
use Rattle.mm_txn.proofs.ReferenceRows.{AreToOthers, IsToOther, place_apart, some_place}

-- ---- columns that refer to other tables

-- A property of the name that a column refers to, if it refers to one.
abbrev OfTarget : (List ℕ → Type 0) → Option (List ℕ) → Type 0
OfTarget P None = Unit {0}
OfTarget P (Some name) = P name

targets_so : (P : List ℕ → Type 0) (columns : List Column) → AllByRecursion (λ c. OfTarget P (target_of c)) columns → (n : ℕ)
    → AllByRecursion (λ (r : ℕ × List ℕ). P r.1) (references_from n columns)
targets_so P [] all n = tt
targets_so P (c ∷ cs) all n = by (target_of c) all.0 (targets_so P cs all.1 (n + 1))
  where
    by : (target : Option (List ℕ)) → OfTarget P target → AllByRecursion (λ (r : ℕ × List ℕ). P r.1) (references_from (n + 1) cs)
        → AllByRecursion (λ (r : ℕ × List ℕ). P r.1) (in_front n target (references_from (n + 1) cs))
    by None is later = later
    by (Some name) is later = (is, later)

-- The name is that of a table, and not this one.
abbrev IsOther : Schema → List ℕ → List ℕ → Type 0
IsOther schema name other = (lacks_table other schema ≡ false) × (same_name name other ≡ false)

columns_so : (schema : Schema) (name : List ℕ) (columns : List Column) → list_any (lacks_target schema) columns ≡ false
    → list_any (refers_to name) columns ≡ false → AllByRecursion (λ c. OfTarget (IsOther schema name) (target_of c)) columns
columns_so schema name [] there other = tt
columns_so schema name (c ∷ cs) there other =
    let p = or_parts (lacks_target schema c) (list_any (lacks_target schema) cs) there in
    let q = or_parts (refers_to name c) (list_any (refers_to name) cs) other in
    (by (target_of c) p.0 q.0, columns_so schema name cs p.1 q.1)
  where
    by : (target : Option (List ℕ)) → option_map_or (λ n. lacks_table n schema) target false ≡ false → option_map_or (same_name name) target false ≡ false
        → OfTarget (IsOther schema name) target
    by None there other = tt
    by (Some n) there other = (there, other)

-- All columns that refer to a table refer to another one, which exists.
pub all_to_others : (schema : Schema) → HasTargets schema → RefersToOthers schema → AreToOthers schema
all_to_others schema targets others = each schema.tables (recursion_from_All _ schema.tables targets) (recursion_from_All _ schema.tables others)
  where
    each : (ts : List Table) → AllByRecursion (λ t. list_any (lacks_target schema) t.definition.columns ≡ false) ts
        → AllByRecursion (λ t. list_any (refers_to t.definition.name) t.definition.columns ≡ false) ts
        → AllByRecursion (λ (t : Table). AllByRecursion (IsToOther schema (name_of t)) (references_of t.definition.columns)) ts
    each [] there others = tt
    each (t ∷ ts) there others = (
      targets_so (IsOther schema (name_of t)) t.definition.columns (columns_so schema (name_of t) t.definition.columns there.0 others.0) 0,
      each ts there.1 others.1,
    )

-- ---- a table to which no table refers

module _ (schema : Schema) (name : List ℕ) (place : ℕ) (placed : table_place name schema ≡ Some place) (table : Table)
    (at : slice_get schema.tables place ≡ Some table) where
  aside : (from : ℕ) (r : ℕ × List ℕ) → IsOther schema name r.1 → (reference_at schema from r).to ≢ place
  aside from r is same =
      let k = some_place schema r.1 is.0 in
      let to : unwrap_or (table_place r.1 schema) 0 ≡ k.0 = ap (λ p. unwrap_or p 0) k.1 in
      place_apart schema name place placed table at r.1 k.0 k.1 (differs_back name r.1 is.1) (sym to ∙ same)

  columns_aside : (from : ℕ) (refs : List (ℕ × List ℕ)) → AllByRecursion (λ (r : ℕ × List ℕ). IsOther schema name r.1) refs
      → All (λ r. r.to ≢ place) (map (reference_at schema from) refs)
  columns_aside from [] are = All-nil (λ r. r.to ≢ place)
  columns_aside from (r ∷ rs) are =
      All-cons (λ r. r.to ≢ place) (reference_at schema from r) (map (reference_at schema from) rs) (aside from r are.0) (columns_aside from rs are.1)

  tables_aside : (from : ℕ) (ts : List Table)
      → AllByRecursion (λ (t : Table). AllByRecursion (λ (r : ℕ × List ℕ). IsOther schema name r.1) (references_of t.definition.columns)) ts
      → All (λ r. r.to ≢ place) (references_behind schema from ts)
  tables_aside from [] are = All-nil (λ r. r.to ≢ place)
  tables_aside from (t ∷ ts) are =
      All-append (λ r. r.to ≢ place) (map (reference_at schema from) (references_of t.definition.columns)) (references_behind schema (from + 1) ts)
      (columns_aside from (references_of t.definition.columns) are.0) (tables_aside (from + 1) ts are.1)

  not_named : (t : Table) → list_any (refers_to (name_of t)) t.definition.columns ≡ false → is_other_referring_to name t ≡ false
      → list_any (refers_to name) t.definition.columns ≡ false
  not_named t itself others = elim (cases_Bool (same_name name (name_of t))) [
    | inl own ↦ ap (λ n. list_any (refers_to n) t.definition.columns) (same_bytes name (name_of t) own) ∙ itself
    | inr other ↦ sym (ap (λ b. not b && list_any (refers_to name) t.definition.columns) other) ∙ others
  ]

  -- No reference is to a table that may be dropped.
  pub none_to_dropped : HasTargets schema → RefersToOthers schema → first_refusal (drop_table_conditions name schema) ≡ None
      → All (λ r. r.to ≢ place) (all_references schema)
  none_to_dropped targets others due =
      tables_aside 0 schema.tables
      (each schema.tables (recursion_from_All _ schema.tables targets) (recursion_from_All _ schema.tables others)
      (or_parts (list_any (is_other_referring_to name) schema.tables) (list_any (reads_table name) schema.standing) (second_none _ _ _ _ _ due)).0)
    where
      each : (ts : List Table) → AllByRecursion (λ t. list_any (lacks_target schema) t.definition.columns ≡ false) ts
          → AllByRecursion (λ t. list_any (refers_to t.definition.name) t.definition.columns ≡ false) ts → list_any (is_other_referring_to name) ts ≡ false
          → AllByRecursion (λ (t : Table). AllByRecursion (λ (r : ℕ × List ℕ). IsOther schema name r.1) (references_of t.definition.columns)) ts
      each [] there others none = tt
      each (t ∷ ts) there others none =
          let p = or_parts (is_other_referring_to name t) (list_any (is_other_referring_to name) ts) none in (
            targets_so (IsOther schema name) t.definition.columns (columns_so schema name t.definition.columns there.0 (not_named t others.0 p.0)) 0,
            each ts there.1 others.1 p.1,
          )

-- ---- a new table's references

at_end : {X : Type 0} (xs : List X) (x : X) → slice_get (xs ++ x ∷ []) (length xs) ≡ Some x
at_end [] x = refl
at_end (y ∷ ys) x = at_end ys x

below_or_same : (n m : ℕ) → n < m + 1 → m ≢ n → n < m
below_or_same n m within apart = elim (cases_Bool (n == m)) [
  | inl same ↦ absurd (apart (sym (eqb-true n m same)))
  | inr differs ↦ grind (arith, nat_tests)
]

-- The references of a new table, which is the last.
abbrev pub new_references : TableDef → Schema → List Reference
new_references definition schema = map (reference_at schema (length schema.tables)) (references_of definition.columns)

module _ (definition : TableDef) (schema : Schema) (targets : HasTargets schema) (others : RefersToOthers schema)
    (due : first_refusal (table_conditions definition schema) ≡ None) where
  fit_one : (r : ℕ × List ℕ) → IsReferenceWithin (with_table definition schema) (reference_at schema (length schema.tables) r)
      → IsFrom (length schema.tables) (length definition.columns) (reference_at schema (length schema.tables) r)
  fit_one r is =
      let new : Table = record { definition = definition; indexes = [] } in
      let own : Some new ≡ Some is.table = sym (at_end schema.tables new) ∙ is.here in
      let same : new ≡ is.table = cc in
      let to_within : unwrap_or (table_place r.1 schema) 0 < length schema.tables + 1 =
      subst (λ n. unwrap_or (table_place r.1 schema) 0 < n) (length_push schema.tables new) is.to_within in
      record {
        from = refl;
        column = subst (λ (t : Table). r.0 < length t.definition.columns) (sym same) is.column_within;
        to = below_or_same (unwrap_or (table_place r.1 schema) 0) (length schema.tables) to_within is.to_another;
      }

  fit_all : (refs : List (ℕ × List ℕ))
      → ((x : Reference) → Contains (map (reference_at schema (length schema.tables)) refs) x → IsReferenceWithin (with_table definition schema) x)
      → All (IsFrom (length schema.tables) (length definition.columns)) (map (reference_at schema (length schema.tables)) refs)
  fit_all [] within = All-nil (IsFrom (length schema.tables) (length definition.columns))
  fit_all (r ∷ rs) within =
      All-cons (IsFrom (length schema.tables) (length definition.columns)) (reference_at schema (length schema.tables) r)
      (map (reference_at schema (length schema.tables)) rs) (fit_one r (within (reference_at schema (length schema.tables) r) (0, omega arith, refl)))
      (fit_all rs (λ x among. within x (suc among.0, let lt = among.1 in omega arith, among.2)))

  -- The references are from the last table, to tables before it.
  pub new_references_fit : All (IsFrom (length schema.tables) (length definition.columns)) (new_references definition schema)
  new_references_fit =
      fit_all (references_of definition.columns)
      (λ r among. reference_there (with_table definition schema) (targets_added definition schema targets due) (others_added definition schema others due) r
      (subst (λ rs. Contains rs r) (sym (references_with_table definition schema targets due))
      (Contains-append_right (all_references schema) (new_references definition schema) r among)))

-- ---- references that are added and removed

module _ (n : ℕ) where
  -- Dropping a table moves none of the references between tables before it, ..
  stay : (rs : List Reference) → AllByRecursion (λ r. (r.from < n) × (r.to < n)) rs → references_without n rs ≡ rs
  stay [] before = refl
  stay (r ∷ rs) before =
      let differs : (r.from == n) ≡ false = before_place r.from before.0.0 in
      ap (λ b. map (moved_up n) (cond (not b) (r ∷ filter (λ x. not (x.from == n)) rs) (filter (λ x. not (x.from == n)) rs))) differs
      ∙ λ i. record { from = not_above r.from before.0.0 i; column = r.column; to = not_above r.to before.0.1 i } ∷ stay rs before.1 i
    where
      before_place : (k : ℕ) → k < n → (k == n) ≡ false
      before_place k h = grind (arith, nat_tests)

      not_above : (k : ℕ) → k < n → above n k ≡ k
      not_above k h = grind (arith, nat_tests)

  -- .. and removes all of its own.
  go : (rs : List Reference) → AllByRecursion (λ r. r.from ≡ n) rs → references_without n rs ≡ []
  go [] own = refl
  go (r ∷ rs) own =
      let same : (r.from == n) ≡ true = eq-eqb r.from n own.0 in
      ap (λ b. map (moved_up n) (cond (not b) (r ∷ filter (λ x. not (x.from == n)) rs) (filter (λ x. not (x.from == n)) rs))) same
      ∙ go rs own.1

  pub come_and_go : (old new : List Reference) → AllByRecursion (λ r. (r.from < n) × (r.to < n)) old → AllByRecursion (λ r. r.from ≡ n) new
      → references_without n (old ++ new) ≡ old
  come_and_go old new before own =
      ap (map (moved_up n)) (filter-append (λ x. not (x.from == n)) old new)
      ∙ map-append (moved_up n) (filter (λ x. not (x.from == n)) old) (filter (λ x. not (x.from == n)) new)
      ∙ (λ i. stay old before i ++ go new own i) ∙ append-nil old

-- ---- a table that is added and dropped

module _ (schema : Schema) (targets : HasTargets schema) (others : RefersToOthers schema) where
  before_all : (rs : List Reference) → ((r : Reference) → Contains rs r → IsReferenceWithin schema r)
      → AllByRecursion (λ r. (r.from < length schema.tables) × (r.to < length schema.tables)) rs
  before_all [] within = tt
  before_all (r ∷ rs) within =
      let is = within r (0, omega arith, refl) in
      ((is.from_within, is.to_within), before_all rs (λ x among. within x (suc among.0, let lt = among.1 in omega arith, among.2)))

  -- The references of a catalog are between its tables.
  pub references_before : AllByRecursion (λ r. (r.from < length schema.tables) × (r.to < length schema.tables)) (all_references schema)
  references_before = before_all (all_references schema) (λ r among. reference_there schema targets others r among)

module _ (n width : ℕ) where
  own_from : (rs : List Reference) → AllByRecursion (IsFrom n width) rs → AllByRecursion (λ r. r.from ≡ n) rs
  own_from [] are = tt
  own_from (r ∷ rs) are = (are.0.from, own_from rs are.1)

  old_aside : (rs : List Reference) → AllByRecursion (λ r. (r.from < n) × (r.to < n)) rs → AllByRecursion (λ r. r.to ≢ n) rs
  old_aside [] before = tt
  old_aside (r ∷ rs) before = (λ same. let lt = before.0.1 in absurd (omega (arith, same, lt)), old_aside rs before.1)

  new_aside : (rs : List Reference) → AllByRecursion (IsFrom n width) rs → AllByRecursion (λ r. r.to ≢ n) rs
  new_aside [] are = tt
  new_aside (r ∷ rs) are = (λ same. let lt = are.0.to in absurd (omega (arith, same, lt)), new_aside rs are.1)

  -- Neither the references of the catalog nor those of the last table refer to the last table, ..
  pub none_to_last : (old new : List Reference) → AllByRecursion (λ r. (r.from < n) × (r.to < n)) old → All (IsFrom n width) new
      → All (λ r. r.to ≢ n) (old ++ new)
  none_to_last old new before are =
      All-append (λ r. r.to ≢ n) old new (All-from_recursion (λ r. r.to ≢ n) old (old_aside old before))
      (All-from_recursion (λ r. r.to ≢ n) new (new_aside new (recursion_from_All (IsFrom n width) new are)))

  -- .. and dropping the last table restores the references of the catalog.
  pub back_to_old : (old new : List Reference) → AllByRecursion (λ r. (r.from < n) × (r.to < n)) old → All (IsFrom n width) new
      → references_without n (old ++ new) ≡ old
  back_to_old old new before are = come_and_go n old new before (own_from new (recursion_from_All (IsFrom n width) new are))

pub remove_last : {X : Type 0} (xs : List X) (x : X) → remove (xs ++ x ∷ []) (length xs) ≡ xs
remove_last [] x = refl
remove_last (y ∷ ys) x = ap (λ others. y ∷ others) (remove_last ys x)

-- ---- what is kept

module _ (schema : Schema) (old new : Tables) (kept : AreKept schema old) where
  -- A change of rows keeps everything, ..
  pub kept_by_rows : AreOf schema.tables new.tables → new.links ≡ old.links → AreKept schema new
  kept_by_rows are links = record {
    relations = are;
    links = links ∙ kept.links;
    targets = kept.targets;
    others = kept.others;
    back = kept.back;
  }

  -- .. so does creating or dropping an index, ..
  pub kept_by_index : (index : IndexDef) → AreOf (with_index index schema).tables new.tables → new.links ≡ old.links → AreKept (with_index index schema) new
  kept_by_index index are links = record {
    relations = are;
    links = links ∙ kept.links ∙ sym (references_with_index index schema);
    targets = targets_indexed index schema kept.targets;
    others = others_indexed index schema kept.others;
    back = older_with_definitions (table_with_index index) (same_with index) [] schema.tables kept.back;
  }

  pub kept_by_no_index : (name : List ℕ) → AreOf (without_index name schema).tables new.tables → new.links ≡ old.links
      → AreKept (without_index name schema) new
  kept_by_no_index name are links = record {
    relations = are;
    links = links ∙ kept.links ∙ sym (references_without_index name schema);
    targets = targets_unindexed name schema kept.targets;
    others = others_unindexed name schema kept.others;
    back = older_with_definitions (table_without_index name) (same_without name) [] schema.tables kept.back;
  }

  -- .. adding a table with its references, ..
  pub kept_by_table : (definition : TableDef) → first_refusal (table_conditions definition schema) ≡ None
      → AreOf (with_table definition schema).tables new.tables
      → new.links ≡ old.links ++ map (reference_at schema (length schema.tables)) (references_of definition.columns)
      → AreKept (with_table definition schema) new
  kept_by_table definition due are links = record {
    relations = are;
    links = links ∙ ap (λ ls. ls ++ map (reference_at schema (length schema.tables)) (references_of definition.columns)) kept.links
        ∙ sym (references_with_table definition schema kept.targets due);
    targets = targets_added definition schema kept.targets due;
    others = others_added definition schema kept.others due;
    back = older_with_table definition schema due kept.back;
  }

  -- .. and dropping one with its references.
  pub kept_by_no_table : (name : List ℕ) (place : ℕ) → table_place name schema ≡ Some place → HasDistinctNames schema
      → first_refusal (drop_table_conditions name schema) ≡ None → AreOf (without_table name schema).tables new.tables
      → new.links ≡ references_without place old.links → AreKept (without_table name schema) new
  kept_by_no_table name place placed distinct due are links = record {
    relations = are;
    links = links ∙ ap (references_without place) kept.links ∙ sym (references_without_table name schema place placed distinct kept.targets due);
    targets = targets_left name schema kept.targets due;
    others = others_left name schema kept.others;
    back = older_without_table name schema due kept.back;
  }
