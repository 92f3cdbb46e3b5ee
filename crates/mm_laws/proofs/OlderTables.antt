-- Each column refers to an older table, in every catalog that commands lead to.
use Rattle.std.proofs.Common.{◌≡◌, ℕ, Bool, true, false, cond, not, ◌&&◌, ◌||◌, List, [], ◌∷◌, ◌++◌, Some, None, inl, inr, filter, find, is_none, map, refl}
use Rattle.std.proofs.Common.{sym, ap, subst, ◌∙◌, append_assoc}
use Rattle.std.specs.List.{AllByRecursion, list_any}
use Rattle.std.proofs.lemmas.Bool.{false≢true, or_parts}
use Rattle.std.proofs.lemmas.List.{append-nil}
use Rattle.std.proofs.lemmas.List.Folds.{list_any-append}
use Rattle.mm_schema.specs.Columns.{refers_to}
use Rattle.mm_schema.specs.Name.{same_name}
use Rattle.mm_schema.specs.References.{RefersBack, references_of}
use Rattle.mm_schema.specs.Refused.{first_refusal}
use Rattle.mm_schema.specs.Schema.{Schema, drop_table_conditions, is_other_referring_to, lacks_table, reads_table, table_conditions, with_table}
use Rattle.mm_schema.specs.declared.table.Table.{Table}
use Rattle.mm_schema.specs.declared.table.TableDef.{TableDef}
use Rattle.mm_schema.proofs.Instances.{name_of}
use Rattle.mm_schema.proofs.NameLemmas.{same_bytes}
use Rattle.mm_schema.proofs.References.{first_none, lacks, second_none}
use Rattle.mm_schema.proofs.StrictOrder.{IsIn}
use Rattle.mm_laws.proofs.NamedRows.{has}
use Rattle.mm_laws.proofs.StillFound.{fails_of_each}

all_by_each : {X : Type 0} (P : X → Type 0) (xs : List X) → ((x : X) → IsIn x xs → P x) → AllByRecursion P xs
all_by_each P [] each = tt
all_by_each P (x ∷ xs) each = (each x (inl refl), all_by_each P xs (λ y later. each y (inr later)))

-- ---- a new table

RefersBack-push : (names : List (List ℕ)) (ts : List Table) (t : Table) → RefersBack names ts
    → AllByRecursion (λ (r : ℕ × List ℕ). list_any (same_name r.1) (names ++ map name_of ts) ≡ true) (references_of t.definition.columns)
    → RefersBack names (ts ++ t ∷ [])
RefersBack-push names [] t back last = (
  subst (λ (ns : List (List ℕ)). AllByRecursion (λ (r : ℕ × List ℕ). list_any (same_name r.1) ns ≡ true) (references_of t.definition.columns))
      (append-nil names) last,
  tt,
)
RefersBack-push names (u ∷ us) t back last = (
  back.0,
  RefersBack-push (names ++ name_of u ∷ []) us t back.1
      (subst (λ (ns : List (List ℕ)). AllByRecursion (λ (r : ℕ × List ℕ). list_any (same_name r.1) ns ≡ true) (references_of t.definition.columns))
      (sym (append_assoc names (name_of u ∷ []) (map name_of us))) last),
)

named_there : (name : List ℕ) (ts : List Table) → lacks name ts ≡ false → list_any (same_name name) (map name_of ts) ≡ true
named_there name [] there = cc
named_there name (t ∷ ts) there = by (has name t) there (named_there name ts)
  where
    by : (b : Bool) → is_none (cond b (Some t) (find (has name) ts)) ≡ false → (lacks name ts ≡ false → list_any (same_name name) (map name_of ts) ≡ true)
        → (b || list_any (same_name name) (map name_of ts)) ≡ true
    by true there later = refl
    by false there later = later there

pub older_with_table : (definition : TableDef) (schema : Schema) → first_refusal (table_conditions definition schema) ≡ None → RefersBack [] schema.tables
    → RefersBack [] (with_table definition schema).tables
older_with_table definition schema due back =
    RefersBack-push [] schema.tables (record { definition = definition; indexes = [] }) back
    (all_by_each (λ (r : ℕ × List ℕ). list_any (same_name r.1) (map name_of schema.tables) ≡ true) (references_of definition.columns)
    (λ r column. named_there r.1 schema.tables (fails_of_each (λ n. lacks_table n schema) 0 definition.columns (first_none _ _ _ due) r column)))

-- ---- other indexes

pub older_with_definitions : (change : Table → Table) → ((t : Table) → (change t).definition ≡ t.definition) → (names : List (List ℕ)) (ts : List Table)
    → RefersBack names ts
    → RefersBack names (map change ts)
older_with_definitions change same names [] back = tt
older_with_definitions change same names (t ∷ ts) back = (
  subst (λ d. AllByRecursion (λ (r : ℕ × List ℕ). list_any (same_name r.1) names ≡ true) (references_of d.columns)) (sym (same t)) back.0,
  subst (λ (d : TableDef). RefersBack (names ++ d.name ∷ []) (map change ts)) (sym (same t))
      (older_with_definitions change same (names ++ name_of t ∷ []) ts back.1),
)

-- ---- a table dropped

module _ (gone : List ℕ) where
  abbrev stays : Table → Bool
  stays t = not (same_name gone (name_of t))

  -- all names but the dropped one still exist
  abbrev Keeps : List (List ℕ) → List (List ℕ) → Type 0
  Keeps names left = (n : List ℕ) → same_name gone n ≡ false → list_any (same_name n) names ≡ true → list_any (same_name n) left ≡ true

  keeps_push : (names left : List (List ℕ)) (name : List ℕ) → Keeps names left → Keeps (names ++ name ∷ []) (left ++ name ∷ [])
  keeps_push names left name keeps n other some =
      list_any-append (same_name n) left (name ∷ [])
      ∙ by (list_any (same_name n) names) (list_any (same_name n) left) (same_name n name || false) (keeps n other)
      (sym (list_any-append (same_name n) names (name ∷ [])) ∙ some)
    where
      by : (a b c : Bool) → (a ≡ true → b ≡ true) → (a || c) ≡ true → (b || c) ≡ true
      by true b c keep some = ap (λ (d : Bool). d || c) (keep refl)
      by false true c keep some = refl
      by false false c keep some = some

  keeps_gone : (names left : List (List ℕ)) (name : List ℕ) → same_name gone name ≡ true → Keeps names left → Keeps (names ++ name ∷ []) left
  keeps_gone names left name went keeps n other some =
      keeps n other (by (list_any (same_name n) names) (same_name n name) refl (sym (list_any-append (same_name n) names (name ∷ [])) ∙ some))
    where
      by : (a b : Bool) → same_name n name ≡ b → (a || (b || false)) ≡ true → a ≡ true
      by true b is some = refl
      by false true is some =
          let same : n ≡ name = same_bytes n name is in
          absurd (false≢true (sym other ∙ (ap (same_name gone) same ∙ went)))
      by false false is some = some

  neither : (a b : Bool) → (not a && b) ≡ false → a ≡ false → b ≡ false
  neither true b none other = cc
  neither false b none other = none

  older_left : (names left : List (List ℕ)) → Keeps names left → (ts : List Table) → list_any (is_other_referring_to gone) ts ≡ false → RefersBack names ts
      → RefersBack left (filter stays ts)
  older_left names left keeps [] unused back = tt
  older_left names left keeps (t ∷ ts) unused back =
      let p = or_parts (is_other_referring_to gone t) (list_any (is_other_referring_to gone) ts) unused in
      by (same_name gone (name_of t)) refl (λ more kept others. older_left (names ++ name_of t ∷ []) more kept ts others back.1) p.0 p.1
    where
      by : (b : Bool) → same_name gone (name_of t) ≡ b
          → ((more : List (List ℕ)) → Keeps (names ++ name_of t ∷ []) more → list_any (is_other_referring_to gone) ts ≡ false
          → RefersBack more (filter stays ts))
          → is_other_referring_to gone t ≡ false → list_any (is_other_referring_to gone) ts ≡ false
          → RefersBack left (cond (not b) (t ∷ filter stays ts) (filter stays ts))
      by true went later own others = later left (keeps_gone names left (name_of t) went keeps) others
      by false here later own others = (
        all_by_each (λ (r : ℕ × List ℕ). list_any (same_name r.1) left ≡ true) (references_of t.definition.columns)
            (λ r column.
            keeps r.1
            (fails_of_each (same_name gone) 0 t.definition.columns
            (neither (same_name gone (name_of t)) (list_any (refers_to gone) t.definition.columns) own here) r column)
            (at_reference (references_of t.definition.columns) back.0 r column)),
        later (left ++ name_of t ∷ []) (keeps_push names left (name_of t) keeps) others,
      )
        where
          at_reference : (rs : List (ℕ × List ℕ)) → AllByRecursion (λ (r : ℕ × List ℕ). list_any (same_name r.1) names ≡ true) rs → (r : ℕ × List ℕ) → IsIn r rs
              → list_any (same_name r.1) names ≡ true
          at_reference [] all r there = absurd there
          at_reference (q ∷ qs) all r (inl same) = ap (λ (x : ℕ × List ℕ). list_any (same_name x.1) names) (sym same) ∙ all.0
          at_reference (q ∷ qs) all r (inr rest) = at_reference qs all.1 r rest

  pub older_without_table : (schema : Schema) → first_refusal (drop_table_conditions gone schema) ≡ None → RefersBack [] schema.tables
      → RefersBack [] (filter stays schema.tables)
  older_without_table schema due back =
      older_left [] [] (λ n other some. some) schema.tables
      (or_parts (list_any (is_other_referring_to gone) schema.tables) (list_any (reads_table gone) schema.standing) (second_none _ _ _ _ _ due)).0 back
