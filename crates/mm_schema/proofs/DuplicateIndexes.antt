-- Indexes with the same name: operations that create none.
use Rattle.std.proofs.Common.{◌≡◌, ℕ, ◌||◌, Bool, true, false, cond, not, List, [], ◌∷◌, ◌++◌, ◌⊎◌, filter, map, inl, inr, refl, sym, ap, ◌∙◌, append_assoc}
use Rattle.std.proofs.Common.{append-nil}
use Rattle.std.specs.List.{IsDistinct, list_any}
use Rattle.std.proofs.lemmas.Bool.{or_parts, or_from}
use Rattle.std.proofs.lemmas.List.Elements.{filter-append}
use Rattle.std.proofs.lemmas.List.Folds.{list_any-append}
use Rattle.std.proofs.lemmas.Map.Keys.{IsDistinct-tail}
use Rattle.mm_schema.specs.Indexes.{has_duplicate_indexes, indexes_of, table_with_index, table_without_index}
use Rattle.mm_schema.specs.Name.{same_name}
use Rattle.mm_schema.specs.declared.index.IndexDef.{IndexDef}
use Rattle.mm_schema.specs.declared.table.Table.{Table}
use Rattle.mm_schema.proofs.Instances.{LackName, name_of, others_lack}
use Rattle.mm_schema.proofs.NameLemmas.{differs_back, same_bytes, same_name_refl}

-- Some index has the name.
abbrev pub is_taken : List ℕ → List IndexDef → Bool
is_taken name indexes = list_any (λ i. same_name name i.name) indexes

is_taken-append : (name : List ℕ) (xs ys : List IndexDef) → is_taken name (xs ++ ys) ≡ false → (is_taken name xs ≡ false) × (is_taken name ys ≡ false)
is_taken-append name xs ys free = or_parts _ _ (sym (list_any-append (λ (i : IndexDef). same_name name i.name) xs ys) ∙ free)

is_taken-joined : (name : List ℕ) (xs ys : List IndexDef) → is_taken name xs ≡ false → is_taken name ys ≡ false → is_taken name (xs ++ ys) ≡ false
is_taken-joined name xs ys first second = list_any-append (λ (i : IndexDef). same_name name i.name) xs ys ∙ or_from _ _ first second

-- ---- one more index

free_with : (name : List ℕ) (xs : List IndexDef) (new : IndexDef) (ys : List IndexDef) → is_taken name (xs ++ ys) ≡ false → same_name name new.name ≡ false
    → is_taken name (xs ++ new ∷ ys) ≡ false
free_with name [] new ys free differs = or_from _ _ differs free
free_with name (x ∷ xs) new ys free differs =
    let p = or_parts (same_name name x.name) (is_taken name (xs ++ ys)) free in or_from _ _ p.0 (free_with name xs new ys p.1 differs)

-- An index with a new name creates no duplicate at any position.
duplicates_with : (xs : List IndexDef) (new : IndexDef) (ys : List IndexDef) → is_taken new.name (xs ++ ys) ≡ false → has_duplicate_indexes (xs ++ ys) ≡ false
    → has_duplicate_indexes (xs ++ new ∷ ys) ≡ false
duplicates_with [] new ys free none = or_from _ _ free none
duplicates_with (x ∷ xs) new ys free none =
    let p = or_parts (same_name new.name x.name) (is_taken new.name (xs ++ ys)) free in
    let q = or_parts (is_taken x.name (xs ++ ys)) (has_duplicate_indexes (xs ++ ys)) none in
    or_from _ _ (free_with x.name xs new ys q.0 (differs_back new.name x.name p.0)) (duplicates_with xs new ys p.1 q.1)

-- ---- fewer indexes

free_among : (name : List ℕ) (keep : IndexDef → Bool) (xs : List IndexDef) → is_taken name xs ≡ false → is_taken name (filter keep xs) ≡ false
free_among name keep [] free = refl
free_among name keep (x ∷ xs) free =
    let p = or_parts (same_name name x.name) (is_taken name xs) free in by (keep x) p.0 (free_among name keep xs p.1)
  where
    by : (b : Bool) → same_name name x.name ≡ false → is_taken name (filter keep xs) ≡ false
        → is_taken name (cond b (x ∷ filter keep xs) (filter keep xs)) ≡ false
    by true differs others = or_from _ _ differs others
    by false differs others = others

-- A sublist has no duplicates either.
duplicates_among : (keep : IndexDef → Bool) (xs : List IndexDef) → has_duplicate_indexes xs ≡ false → has_duplicate_indexes (filter keep xs) ≡ false
duplicates_among keep [] none = refl
duplicates_among keep (x ∷ xs) none =
    let p = or_parts (is_taken x.name xs) (has_duplicate_indexes xs) none in by (keep x) (free_among x.name keep xs p.0) (duplicates_among keep xs p.1)
  where
    by : (b : Bool) → is_taken x.name (filter keep xs) ≡ false → has_duplicate_indexes (filter keep xs) ≡ false
        → has_duplicate_indexes (cond b (x ∷ filter keep xs) (filter keep xs)) ≡ false
    by true free others = or_from _ _ free others
    by false free others = others

-- The later indexes of a list have none.
pub duplicates_behind : (xs ys : List IndexDef) → has_duplicate_indexes (xs ++ ys) ≡ false → has_duplicate_indexes ys ≡ false
duplicates_behind [] ys none = none
duplicates_behind (x ∷ xs) ys none = duplicates_behind xs ys (or_parts (is_taken x.name (xs ++ ys)) (has_duplicate_indexes (xs ++ ys)) none).1

-- The later indexes may be replaced by ones without new names.
duplicates_instead : (xs ys zs : List IndexDef) → ((name : List ℕ) → is_taken name ys ≡ false → is_taken name zs ≡ false)
    → has_duplicate_indexes (xs ++ ys) ≡ false → has_duplicate_indexes zs ≡ false → has_duplicate_indexes (xs ++ zs) ≡ false
duplicates_instead [] ys zs fewer none others = others
duplicates_instead (x ∷ xs) ys zs fewer none others =
    let p = or_parts (is_taken x.name (xs ++ ys)) (has_duplicate_indexes (xs ++ ys)) none in
    let q = is_taken-append x.name xs ys p.0 in
    or_from _ _ (is_taken-joined x.name xs zs q.0 (fewer x.name q.1)) (duplicates_instead xs ys zs fewer p.1 others)

-- ---- tables

-- The position at which an index is inserted, or that it is not inserted.
record IsParted (index : IndexDef) (old new : List IndexDef) : Type 0 where
  before : List IndexDef
  behind : List IndexDef
  old_is : old ≡ before ++ behind
  new_is : (new ≡ before ++ index ∷ behind) ⊎ (new ≡ old)

module _ (index : IndexDef) where
  -- Tables with other names are unchanged.
  pub others_stay : (tables : List Table) → LackName index.table tables → map (table_with_index index) tables ≡ tables
  others_stay [] lack = refl
  others_stay (t ∷ ts) lack = λ i. cond (lack.0 i) (record t { indexes = t.indexes ++ index ∷ [] }) t ∷ others_stay ts lack.1 i

  parted : (tables : List Table) → IsDistinct same_name (map name_of tables)
      → IsParted index (indexes_of tables) (indexes_of (map (table_with_index index) tables))
  parted [] distinct = record { before = []; behind = []; old_is = refl; new_is = inr refl }
  parted (t ∷ ts) distinct =
      by (same_name index.table (name_of t)) refl (parted ts (IsDistinct-tail same_name (name_of t) (map name_of ts) distinct))
    where
      others : List IndexDef
      others = indexes_of (map (table_with_index index) ts)

      by : (b : Bool) → same_name index.table (name_of t) ≡ b → IsParted index (indexes_of ts) others
          → IsParted index (t.indexes ++ indexes_of ts) ((cond b (record t { indexes = t.indexes ++ index ∷ [] }) t).indexes ++ others)
      by true own later = record {
        before = t.indexes;
        behind = indexes_of ts;
        old_is = refl;
        new_is = inl (append_assoc t.indexes (index ∷ []) others
            ∙ ap (λ us. t.indexes ++ index ∷ indexes_of us) (others_stay ts (others_lack index.table t ts own distinct)));
      }
      by false other later = record {
        before = t.indexes ++ later.before;
        behind = later.behind;
        old_is = ap (λ is. t.indexes ++ is) later.old_is ∙ sym (append_assoc t.indexes later.before later.behind);
        new_is = elim later.new_is [
          | inl more ↦ inl (ap (λ is. t.indexes ++ is) more ∙ sym (append_assoc t.indexes later.before (index ∷ later.behind)))
          | inr same ↦ inr (ap (λ is. t.indexes ++ is) same)
        ];
      }

  -- An index with a new name keeps all names distinct.
  pub distinct_with : (tables : List Table) → IsDistinct same_name (map name_of tables) → is_taken index.name (indexes_of tables) ≡ false
      → has_duplicate_indexes (indexes_of tables) ≡ false → has_duplicate_indexes (indexes_of (map (table_with_index index) tables)) ≡ false
  distinct_with tables distinct free none =
      let p = parted tables distinct in
      elim p.new_is [
        | inl more ↦
            ap has_duplicate_indexes more
            ∙ duplicates_with p.before index p.behind (sym (ap (is_taken index.name) p.old_is) ∙ free) (sym (ap has_duplicate_indexes p.old_is) ∙ none)
        | inr same ↦ ap has_duplicate_indexes same ∙ none
      ]

module _ (name : List ℕ) where
  abbrev keeps : IndexDef → Bool
  keeps index = not (same_name name index.name)

  pub all_kept : (xs : List IndexDef) → is_taken name xs ≡ false → filter keeps xs ≡ xs
  all_kept [] free = refl
  all_kept (x ∷ xs) free =
      let p = or_parts (same_name name x.name) (is_taken name xs) free in
      λ i. cond (not (p.0 i)) (x ∷ all_kept xs p.1 i) (all_kept xs p.1 i)

  -- A table without an index with the name is unchanged, ..
  pub stays_without : (t : Table) → is_taken name t.indexes ≡ false → table_without_index name t ≡ t
  stays_without t free = ap (λ is. record t { indexes = is }) (all_kept t.indexes free)

  -- .. and so do several.
  pub stay_without : (tables : List Table) → is_taken name (indexes_of tables) ≡ false → map (table_without_index name) tables ≡ tables
  stay_without [] free = refl
  stay_without (t ∷ ts) free =
      let p = is_taken-append name t.indexes (indexes_of ts) free in λ i. stays_without t p.0 i ∷ stay_without ts p.1 i

  -- Appending an index and dropping it again leaves all tables as they were.
  pub with_and_without : (index : IndexDef) (tables : List Table) → name ≡ index.name → is_taken name (indexes_of tables) ≡ false
      → map (table_without_index name) (map (table_with_index index) tables) ≡ tables
  with_and_without index [] is free = refl
  with_and_without index (t ∷ ts) is free =
      let p = is_taken-append name t.indexes (indexes_of ts) free in
      let first = by (same_name index.table (name_of t)) p.0 in
      λ i. first i ∷ with_and_without index ts is p.1 i
    where
      itself : same_name name index.name ≡ true
      itself = ap (λ n. same_name name n) (sym is) ∙ same_name_refl name

      by : (b : Bool) → is_taken name t.indexes ≡ false
          → table_without_index name (cond b (record t { indexes = t.indexes ++ index ∷ [] }) t) ≡ t
      by true free_here =
          ap (λ is. record t { indexes = is })
          (filter-append keeps t.indexes (index ∷ []) ∙ ap (λ b. filter keeps t.indexes ++ cond (not b) (index ∷ []) []) itself
          ∙ append-nil (filter keeps t.indexes) ∙ all_kept t.indexes free_here)
      by false free_here = stays_without t free_here

  -- A name used by an earlier index is not used by a later one.
  pub free_behind : (xs ys : List IndexDef) → is_taken name xs ≡ true → has_duplicate_indexes (xs ++ ys) ≡ false → is_taken name ys ≡ false
  free_behind [] ys taken none = cc
  free_behind (x ∷ xs) ys taken none =
      let p = or_parts (is_taken x.name (xs ++ ys)) (has_duplicate_indexes (xs ++ ys)) none in
      by (same_name name x.name) refl taken p.0 (λ more. free_behind xs ys more p.1)
    where
      by : (b : Bool) → same_name name x.name ≡ b → (b || is_taken name xs) ≡ true → is_taken x.name (xs ++ ys) ≡ false
          → (is_taken name xs ≡ true → is_taken name ys ≡ false) → is_taken name ys ≡ false
      by true same here free later =
          ap (λ n. is_taken n ys) (same_bytes name x.name same) ∙ (is_taken-append x.name xs ys free).1
      by false other here free later = later here

  indexes_left : (tables : List Table) → indexes_of (map (table_without_index name) tables) ≡ filter keeps (indexes_of tables)
  indexes_left [] = refl
  indexes_left (t ∷ ts) = ap (λ is. filter keeps t.indexes ++ is) (indexes_left ts) ∙ sym (filter-append keeps t.indexes (indexes_of ts))

  -- Without an index, all names are still distinct.
  pub distinct_without : (tables : List Table) → has_duplicate_indexes (indexes_of tables) ≡ false
      → has_duplicate_indexes (indexes_of (map (table_without_index name) tables)) ≡ false
  distinct_without tables none = ap has_duplicate_indexes (indexes_left tables) ∙ duplicates_among keeps (indexes_of tables) none

module _ (stays : Table → Bool) where
  free_in_fewer : (tables : List Table) (name : List ℕ) → is_taken name (indexes_of tables) ≡ false → is_taken name (indexes_of (filter stays tables)) ≡ false
  free_in_fewer [] name free = refl
  free_in_fewer (t ∷ ts) name free =
      let p = is_taken-append name t.indexes (indexes_of ts) free in by (stays t) p.0 (free_in_fewer ts name p.1)
    where
      by : (b : Bool) → is_taken name t.indexes ≡ false → is_taken name (indexes_of (filter stays ts)) ≡ false
          → is_taken name (indexes_of (cond b (t ∷ filter stays ts) (filter stays ts))) ≡ false
      by true first others = is_taken-joined name t.indexes (indexes_of (filter stays ts)) first others
      by false first others = others

  -- The names of the indexes of fewer tables are distinct too.
  pub distinct_in_fewer : (tables : List Table) → has_duplicate_indexes (indexes_of tables) ≡ false
      → has_duplicate_indexes (indexes_of (filter stays tables)) ≡ false
  distinct_in_fewer [] none = refl
  distinct_in_fewer (t ∷ ts) none = by (stays t) (distinct_in_fewer ts (duplicates_behind t.indexes (indexes_of ts) none))
    where
      by : (b : Bool) → has_duplicate_indexes (indexes_of (filter stays ts)) ≡ false
          → has_duplicate_indexes (indexes_of (cond b (t ∷ filter stays ts) (filter stays ts))) ≡ false
      by true others = duplicates_instead t.indexes (indexes_of ts) (indexes_of (filter stays ts)) (free_in_fewer ts) none others
      by false others = others
