-- The tables of every catalog can be created one after another, without regard to indexes and standing queries.
use Rattle.std.proofs.Common.{◌≡◌, ◌≤◌, ℕ, Bool, true, false, cond, not, ◌&&◌, ◌||◌, leb, ltb, List, [], ◌∷◌, ◌++◌, Option, Some, None, filter, find}
use Rattle.std.proofs.Common.{is_none, is_some, length, map}
use Rattle.std.proofs.Common.{refl, sym, ap, ◌∙◌, subst, append_assoc, append-nil, arith}
use Rattle.std.specs.List.{list_any}
use Rattle.std.specs.Option.{option_map_or}
use Rattle.std.proofs.lemmas.Bool.{false≢true, leb-false, lt-leb, or_from, or_parts}
use Rattle.std.proofs.lemmas.List.{length-map, map-append}
use Rattle.std.proofs.lemmas.List.Elements.{filter-append}
use Rattle.mm_value.specs.declared.refusal.Refusal.TheVariants.{NameTaken, NoSuchTable, TooMany, TypeMismatch}
use Rattle.mm_schema.specs.Columns.{differs_from_key, has_duplicate_names, refers_to, target_of}
use Rattle.mm_schema.specs.Name.{same_name}
use Rattle.mm_schema.specs.Refused.{first_refusal}
use Rattle.mm_schema.specs.Schema.{Schema, is_other_referring_to, lacks_table, lacks_target, mismatches_target, table_conditions, table_named}
use Rattle.mm_schema.specs.Schema.{table_passes, without_table}
use Rattle.mm_schema.specs.declared.column.Column.{Column}
use Rattle.mm_schema.specs.declared.standing.StandingDef.{StandingDef}
use Rattle.mm_schema.specs.declared.table.Table.{Table}
use Rattle.mm_schema.specs.declared.table.TableDef.{TableDef}
use Rattle.mm_schema.proofs.Instances.{name_of}
use Rattle.mm_schema.proofs.References.{as_there}
use Rattle.mm_query.proofs.PlacedQueries.{none_hold}
use Rattle.mm_laws.proofs.NamedRows.{has, table_left, told_kept}
use Rattle.mm_dump.proofs.Restorable.{AreCreatable, without_indexes}
use Rattle.mm_dump.proofs.Creating.{bare}

-- ---- a new table, whatever indexes and standing queries there are

is_some_by : {X : Type 0} (o : Option X) → is_some o ≡ not (is_none o)
is_some_by None = refl
is_some_by (Some x) = refl

module _ (change : Table → Table) (same : (t : Table) → (change t).definition ≡ t.definition) (schema : Schema) (standing : List StandingDef) where
  abbrev catalog : Schema
  catalog = record { tables = map change schema.tables; standing = standing }

  lacks_same : (columns : List Column) → list_any (lacks_target catalog) columns ≡ list_any (lacks_target schema) columns
  lacks_same [] = refl
  lacks_same (c ∷ cs) = λ i. by (target_of c) i || lacks_same cs i
    where
      by : (target : Option (List ℕ)) → option_map_or (λ n. lacks_table n catalog) target false ≡ option_map_or (λ n. lacks_table n schema) target false
      by None = refl
      by (Some n) = as_there change same n schema.tables

  mismatches_same : (columns : List Column) → list_any (mismatches_target catalog) columns ≡ list_any (mismatches_target schema) columns
  mismatches_same [] = refl
  mismatches_same (c ∷ cs) = λ i. by (target_of c) i || mismatches_same cs i
    where
      by : (target : Option (List ℕ)) → option_map_or (λ n. table_passes (λ t. differs_from_key c.col_type t.definition.columns) n catalog) target false
          ≡ option_map_or (λ n. table_passes (λ t. differs_from_key c.col_type t.definition.columns) n schema) target false
      by None = refl
      by (Some n) = told_kept change same n (λ d. differs_from_key c.col_type d.columns) false schema.tables

  taken_same : (name : List ℕ) → is_some (table_named name catalog) ≡ is_some (table_named name schema)
  taken_same name =
      is_some_by (table_named name catalog) ∙ ap not (as_there change same name schema.tables) ∙ sym (is_some_by (table_named name schema))

  -- A new table is refused alike.
  pub conditions_same : (definition : TableDef) → first_refusal (table_conditions definition catalog) ≡ first_refusal (table_conditions definition schema)
  conditions_same definition =
      λ i. cond (lacks_same definition.columns i) (Some NoSuchTable)
      (cond (taken_same definition.name i || has_duplicate_names definition.columns) (Some NameTaken)
      (cond (mismatches_same definition.columns i) (Some TypeMismatch)
      (cond (leb 64 (length-map schema.tables change i) || ltb 16 (length definition.columns)) (Some TooMany) None)))

-- ---- a table dropped

-- A filter leaves no more.
pub length-filter_le : {X : Type 0} (p : X → Bool) (xs : List X) → length (filter p xs) ≤ length xs
length-filter_le p [] = omega arith
length-filter_le p (x ∷ xs) = by (p x) (length-filter_le p xs)
  where
    by : (b : Bool) → length (filter p xs) ≤ length xs → length (cond b (x ∷ filter p xs) (filter p xs)) ≤ length (x ∷ xs)
    by true later = omega (arith, later)
    by false later = omega (arith, later)

module _ (gone : List ℕ) where
  abbrev stays : Table → Bool
  stays t = not (same_name gone (name_of t))

  still_free : (name : List ℕ) (ts : List Table) → is_some (find (has name) ts) ≡ false → is_some (find (has name) (filter stays ts)) ≡ false
  still_free name [] free = refl
  still_free name (t ∷ ts) free = by (has name t) refl (stays t) free (still_free name ts)
    where
      by : (b : Bool) → has name t ≡ b → (s : Bool) → is_some (cond b (Some t) (find (has name) ts)) ≡ false
          → (is_some (find (has name) ts) ≡ false → is_some (find (has name) (filter stays ts)) ≡ false)
          → is_some (find (has name) (cond s (t ∷ filter stays ts) (filter stays ts))) ≡ false
      by true own s free later = absurd (false≢true (sym free))
      by false other true free later = ap (λ b. is_some (cond b (Some t) (find (has name) (filter stays ts)))) other ∙ later free
      by false other false free later = later free

  module _ (schema : Schema) where
    abbrev left : Schema
    left = without_table gone schema

    lacks_left : (columns : List Column) → list_any (lacks_target schema) columns ≡ false → list_any (refers_to gone) columns ≡ false
        → list_any (lacks_target left) columns ≡ false
    lacks_left [] there unused = refl
    lacks_left (c ∷ cs) there unused =
        let p = or_parts (lacks_target schema c) (list_any (lacks_target schema) cs) there in
        let q = or_parts (refers_to gone c) (list_any (refers_to gone) cs) unused in
        or_from _ _ (by (target_of c) p.0 q.0) (lacks_left cs p.1 q.1)
      where
        by : (target : Option (List ℕ)) → option_map_or (λ n. lacks_table n schema) target false ≡ false → option_map_or (same_name gone) target false ≡ false
            → option_map_or (λ n. lacks_table n left) target false ≡ false
        by None there other = refl
        by (Some n) there other = ap (λ (o : Option Table). is_none o) (table_left gone n other schema.tables) ∙ there

    mismatches_left : (columns : List Column) → list_any (mismatches_target schema) columns ≡ false → list_any (refers_to gone) columns ≡ false
        → list_any (mismatches_target left) columns ≡ false
    mismatches_left [] none unused = refl
    mismatches_left (c ∷ cs) none unused =
        let p = or_parts (mismatches_target schema c) (list_any (mismatches_target schema) cs) none in
        let q = or_parts (refers_to gone c) (list_any (refers_to gone) cs) unused in
        or_from _ _ (by (target_of c) p.0 q.0) (mismatches_left cs p.1 q.1)
      where
        by : (target : Option (List ℕ))
            → option_map_or (λ n. table_passes (λ t. differs_from_key c.col_type t.definition.columns) n schema) target false ≡ false
            → option_map_or (same_name gone) target false ≡ false
            → option_map_or (λ n. table_passes (λ t. differs_from_key c.col_type t.definition.columns) n left) target false ≡ false
        by None none other = refl
        by (Some n) none other =
            ap (λ (o : Option Table). option_map_or (λ t. differs_from_key c.col_type t.definition.columns) o false) (table_left gone n other schema.tables)
            ∙ none

    -- A table that refers to another one than the one dropped can still be created.
    conditions_left : (definition : TableDef) → first_refusal (table_conditions definition schema) ≡ None
        → list_any (refers_to gone) definition.columns ≡ false → first_refusal (table_conditions definition left) ≡ None
    conditions_left definition due unused =
        let hold = none_hold (table_conditions definition schema) due in
        let names = or_parts (is_some (table_named definition.name schema)) (has_duplicate_names definition.columns) hold.1.0 in
        let limits = or_parts (leb 64 (length schema.tables)) (ltb 16 (length definition.columns)) hold.1.1.1.0 in
        let fewer : leb 64 (length left.tables) ≡ false =
        lt-leb 64 (length left.tables) (omega (arith, leb-false 64 (length schema.tables) limits.0, length-filter_le stays schema.tables)) in
        λ i. cond (lacks_left definition.columns hold.0 unused i) (Some NoSuchTable)
        (cond (or_from _ _ (still_free definition.name schema.tables names.0) names.1 i) (Some NameTaken)
        (cond (mismatches_left definition.columns hold.1.1.0 unused i) (Some TypeMismatch)
        (cond (or_from _ _ fewer limits.1 i) (Some TooMany) None)))

  bare_left : (ts : List Table) → bare (filter stays ts) ≡ filter stays (bare ts)
  bare_left [] = refl
  bare_left (t ∷ ts) = by (stays t) (bare_left ts)
    where
      by : (b : Bool) → bare (filter stays ts) ≡ filter stays (bare ts)
          → bare (cond b (t ∷ filter stays ts) (filter stays ts)) ≡ cond b (without_indexes t ∷ filter stays (bare ts)) (filter stays (bare ts))
      by true later = ap (λ l. without_indexes t ∷ l) later
      by false later = later

  unreferred : (a b : Bool) → (not a && b) ≡ false → a ≡ false → b ≡ false
  unreferred true b none other = absurd (false≢true (sym other))
  unreferred false b none other = none

  -- Tables without one that no other refers to can be created.
  pub creatable_left : (earlier ts : List Table) → AreCreatable earlier ts → list_any (is_other_referring_to gone) ts ≡ false
      → AreCreatable (filter stays earlier) (filter stays ts)
  creatable_left earlier [] creatable unused = tt
  creatable_left earlier (t ∷ ts) creatable unused =
      let p = or_parts (is_other_referring_to gone t) (list_any (is_other_referring_to gone) ts) unused in
      by (same_name gone (name_of t)) refl p.0 (creatable_left (earlier ++ t ∷ []) ts creatable.1 p.1)
    where
      by : (b : Bool) → same_name gone (name_of t) ≡ b → is_other_referring_to gone t ≡ false
          → AreCreatable (filter stays (earlier ++ t ∷ [])) (filter stays ts)
          → AreCreatable (filter stays earlier) (cond (not b) (t ∷ filter stays ts) (filter stays ts))
      by true went own later =
          let dropped : filter stays (earlier ++ t ∷ []) ≡ filter stays earlier =
          filter-append stays earlier (t ∷ []) ∙ ap (λ b. filter stays earlier ++ cond (not b) (t ∷ []) []) went ∙ append-nil (filter stays earlier) in
          subst (λ l. AreCreatable l (filter stays ts)) dropped later
      by false here own later =
          let kept : filter stays (earlier ++ t ∷ []) ≡ filter stays earlier ++ t ∷ [] =
          filter-append stays earlier (t ∷ []) ∙ ap (λ b. filter stays earlier ++ cond (not b) (t ∷ []) []) here in
          let schema : Schema = record { tables = bare earlier; standing = [] } in
          let due : first_refusal (table_conditions t.definition (record { tables = filter stays (bare earlier); standing = [] })) ≡ None =
          conditions_left schema t.definition creatable.0
          (unreferred (same_name gone (name_of t)) (list_any (refers_to gone) t.definition.columns) own here) in (
            subst (λ l. first_refusal (table_conditions t.definition (record { tables = l; standing = [] })) ≡ None) (sym (bare_left earlier)) due,
            subst (λ l. AreCreatable l (filter stays ts)) kept later,
          )

-- ---- another table

pub creatable_pushed : (earlier ts : List Table) (t : Table) → AreCreatable earlier ts
    → first_refusal (table_conditions t.definition (record { tables = bare (earlier ++ ts); standing = [] })) ≡ None → AreCreatable earlier (ts ++ t ∷ [])
creatable_pushed earlier [] t creatable due =
    (subst (λ l. first_refusal (table_conditions t.definition (record { tables = bare l; standing = [] })) ≡ None) (append-nil earlier) due, tt)
creatable_pushed earlier (u ∷ us) t creatable due = (
  creatable.0,
  creatable_pushed (earlier ++ u ∷ []) us t creatable.1
      (subst (λ l. first_refusal (table_conditions t.definition (record { tables = bare l; standing = [] })) ≡ None)
      (sym (append_assoc earlier (u ∷ []) us)) due),
)

-- ---- other indexes

module _ (change : Table → Table) (same : (t : Table) → (change t).definition ≡ t.definition) where
  bare_same : (ts : List Table) → bare (map change ts) ≡ bare ts
  bare_same [] = refl
  bare_same (t ∷ ts) = λ i. record { definition = same t i; indexes = [] } ∷ bare_same ts i

  pub creatable_kept : (earlier ts : List Table) → AreCreatable earlier ts → AreCreatable (map change earlier) (map change ts)
  creatable_kept earlier [] creatable = tt
  creatable_kept earlier (t ∷ ts) creatable = (
    (λ i. first_refusal (table_conditions (same t i) (record { tables = bare_same earlier i; standing = [] }))) ∙ creatable.0,
    subst (λ l. AreCreatable l (map change ts)) (map-append change earlier (t ∷ [])) (creatable_kept (earlier ++ t ∷ []) ts creatable.1),
  )
