-- The rows of the table with a name, and the table itself, after each change of a state.
use Rattle.std.proofs.Common.{◌≡◌, ℕ, Bool, true, false, cond, not, List, [], ◌∷◌, ◌++◌, Option, Some, filter, find, is_none, map, refl, sym, ap, ◌∙◌}
use Rattle.std.specs.Option.{option_map_or}
use Rattle.std.proofs.lemmas.Bool.{false≢true}
use Rattle.mm_schema.specs.Columns.{key_place}
use Rattle.mm_schema.specs.Instance.{Instance, changed_instance, pairs_of, rows_named, without_rows}
use Rattle.mm_schema.specs.Name.{same_name}
use Rattle.mm_schema.specs.Rows.{Pair, changed}
use Rattle.mm_schema.specs.declared.table.Table.{Table}
use Rattle.mm_schema.specs.declared.table.TableDef.{TableDef}
use Rattle.mm_schema.proofs.Instances.{AreBeside, edits_of_one, name_of, pairs_of-other, pairs_of-own}
use Rattle.mm_schema.proofs.NameLemmas.{same_bytes}
use Rattle.mm_schema.proofs.References.{lacks}
use Rattle.mm_schema.proofs.Duplicates.{Row}

-- the table has the name
abbrev pub has : List ℕ → Table → Bool
has name table = same_name name (name_of table)

-- ---- a new table

module _ (name : List ℕ) (new : Table) where
  -- An existing name keeps its table ..
  pub table_behind : (ts : List Table) → lacks name ts ≡ false → find (has name) (ts ++ new ∷ []) ≡ find (has name) ts
  table_behind [] there = cc
  table_behind (t ∷ ts) there = by (has name t) there (table_behind ts)
    where
      by : (b : Bool) → is_none (cond b (Some t) (find (has name) ts)) ≡ false → (lacks name ts ≡ false → find (has name) (ts ++ new ∷ []) ≡ find (has name) ts)
          → cond b (Some t) (find (has name) (ts ++ new ∷ [])) ≡ cond b (Some t) (find (has name) ts)
      by true there later = refl
      by false there later = later there

  -- .. and its rows, ..
  pub rows_behind : (ts : List Table) (rows : Instance) → AreBeside ts rows → lacks name ts ≡ false
      → rows_named name (ts ++ new ∷ []) (rows ++ [] ∷ []) ≡ rows_named name ts rows
  rows_behind [] [] beside there = cc
  rows_behind (t ∷ ts) (r ∷ rs) beside there = by (has name t) there (rows_behind ts rs beside)
    where
      by : (b : Bool) → is_none (cond b (Some t) (find (has name) ts)) ≡ false
          → (lacks name ts ≡ false → rows_named name (ts ++ new ∷ []) (rs ++ [] ∷ []) ≡ rows_named name ts rs)
          → cond b r (rows_named name (ts ++ new ∷ []) (rs ++ [] ∷ [])) ≡ cond b r (rows_named name ts rs)
      by true there later = refl
      by false there later = later there
  rows_behind [] (r ∷ rs) beside there = absurd beside
  rows_behind (t ∷ ts) [] beside there = absurd beside

  -- .. and any other name has none.
  pub no_rows_behind : (ts : List Table) (rows : Instance) → AreBeside ts rows → lacks name ts ≡ true
      → rows_named name (ts ++ new ∷ []) (rows ++ [] ∷ []) ≡ []
  no_rows_behind [] [] beside none = by (has name new)
    where
      by : (b : Bool) → cond {A = List Row} b [] [] ≡ []
      by true = refl
      by false = refl
  no_rows_behind (t ∷ ts) (r ∷ rs) beside none = by (has name t) none (no_rows_behind ts rs beside)
    where
      by : (b : Bool) → is_none (cond b (Some t) (find (has name) ts)) ≡ true → (lacks name ts ≡ true → rows_named name (ts ++ new ∷ []) (rs ++ [] ∷ []) ≡ [])
          → cond b r (rows_named name (ts ++ new ∷ []) (rs ++ [] ∷ [])) ≡ []
      by true none later = absurd (false≢true none)
      by false none later = later none
  no_rows_behind [] (r ∷ rs) beside none = absurd beside
  no_rows_behind (t ∷ ts) [] beside none = absurd beside

-- ---- a dropped table

no_rows : (name : List ℕ) (ts : List Table) → rows_named name ts [] ≡ []
no_rows name [] = refl
no_rows name (t ∷ ts) = refl

module _ (gone : List ℕ) where
  abbrev stays : Table → Bool
  stays t = not (same_name gone (name_of t))

  -- no table with another name is the dropped one
  not_the_same : (name : List ℕ) (t : Table) → same_name gone name ≡ false → has name t ≡ true → same_name gone (name_of t) ≡ false
  not_the_same name t other own = ap (same_name gone) (sym (same_bytes name (name_of t) own)) ∙ other

  -- Another name keeps its table ..
  pub table_left : (name : List ℕ) → same_name gone name ≡ false → (ts : List Table) → find (has name) (filter stays ts) ≡ find (has name) ts
  table_left name other [] = refl
  table_left name other (t ∷ ts) = by (has name t) refl (same_name gone (name_of t)) refl (table_left name other ts)
    where
      by : (b : Bool) → has name t ≡ b → (g : Bool) → same_name gone (name_of t) ≡ g → find (has name) (filter stays ts) ≡ find (has name) ts
          → find (has name) (cond (not g) (t ∷ filter stays ts) (filter stays ts)) ≡ cond b (Some t) (find (has name) ts)
      by true own true went later = absurd (false≢true (sym (not_the_same name t other own) ∙ went))
      by true own false here later = ap (λ b. cond b (Some t) (find (has name) (filter stays ts))) own
      by false differs true went later = later
      by false differs false here later = ap (λ b. cond b (Some t) (find (has name) (filter stays ts))) differs ∙ later

  -- .. and its rows, ..
  pub rows_left : (name : List ℕ) → same_name gone name ≡ false → (ts : List Table) (rows : Instance)
      → rows_named name (filter stays ts) (without_rows gone ts rows) ≡ rows_named name ts rows
  rows_left name other [] rows = refl
  rows_left name other (t ∷ ts) [] = no_rows name (filter stays (t ∷ ts))
  rows_left name other (t ∷ ts) (r ∷ rs) = by (has name t) refl (same_name gone (name_of t)) refl (rows_left name other ts rs)
    where
      by : (b : Bool) → has name t ≡ b → (g : Bool) → same_name gone (name_of t) ≡ g
          → rows_named name (filter stays ts) (without_rows gone ts rs) ≡ rows_named name ts rs
          → rows_named name (cond (not g) (t ∷ filter stays ts) (filter stays ts)) (cond g (without_rows gone ts rs) (r ∷ without_rows gone ts rs))
          ≡ cond b r (rows_named name ts rs)
      by true own true went later = absurd (false≢true (sym (not_the_same name t other own) ∙ went))
      by true own false here later = ap (λ b. cond b r (rows_named name (filter stays ts) (without_rows gone ts rs))) own
      by false differs true went later = later
      by false differs false here later = ap (λ b. cond b r (rows_named name (filter stays ts) (without_rows gone ts rs))) differs ∙ later

  -- .. and the dropped name has none.
  pub rows_gone : (ts : List Table) (rows : Instance) → rows_named gone (filter stays ts) (without_rows gone ts rows) ≡ []
  rows_gone [] rows = refl
  rows_gone (t ∷ ts) [] = no_rows gone (filter stays (t ∷ ts))
  rows_gone (t ∷ ts) (r ∷ rs) = by (same_name gone (name_of t)) refl (rows_gone ts rs)
    where
      by : (g : Bool) → same_name gone (name_of t) ≡ g → rows_named gone (filter stays ts) (without_rows gone ts rs) ≡ []
          → rows_named gone (cond (not g) (t ∷ filter stays ts) (filter stays ts)) (cond g (without_rows gone ts rs) (r ∷ without_rows gone ts rs)) ≡ []
      by true went later = later
      by false here later = ap (λ b. cond b r (rows_named gone (filter stays ts) (without_rows gone ts rs))) here ∙ later

-- ---- other indexes

module _ (change : Table → Table) (same : (t : Table) → (change t).definition ≡ t.definition) (name : List ℕ) where
  module _ {X : Type 0} (tell : TableDef → X) (none : X) where
    abbrev told : Option Table → X
    told found = option_map_or (λ (t : Table). tell t.definition) found none

    -- If each table keeps its definition, the properties of the definition with a name stay ..
    pub told_kept : (ts : List Table) → told (find (has name) (map change ts)) ≡ told (find (has name) ts)
    told_kept [] = refl
    told_kept (t ∷ ts) =
        ap (λ d. told (cond (same_name name d.name) (Some (change t)) (find (has name) (map change ts)))) (same t) ∙ by (has name t) (told_kept ts)
      where
        by : (b : Bool) → told (find (has name) (map change ts)) ≡ told (find (has name) ts)
            → told (cond b (Some (change t)) (find (has name) (map change ts))) ≡ told (cond b (Some t) (find (has name) ts))
        by true later = ap tell (same t)
        by false later = later

  -- .. and so do its rows.
  pub rows_kept : (ts : List Table) (rows : Instance) → rows_named name (map change ts) rows ≡ rows_named name ts rows
  rows_kept [] rows = refl
  rows_kept (t ∷ ts) [] = refl
  rows_kept (t ∷ ts) (r ∷ rs) = λ i. cond (same_name name (same t i).name) r (rows_kept ts rs i)

-- ---- a change of rows

module _ (name : List ℕ) (pairs : List Pair) where
  -- The rows of an existing table are changed by its pairs, ..
  pub rows_changed : (ts : List Table) (rows : Instance) → AreBeside ts rows → lacks name ts ≡ false
      → rows_named name ts (changed_instance ts (edits_of_one name pairs) rows)
      ≡ changed (option_map_or (λ (t : Table). key_place t.definition.columns) (find (has name) ts) 0) pairs (rows_named name ts rows)
  rows_changed [] [] beside there = cc
  rows_changed (t ∷ ts) (r ∷ rs) beside there = by (has name t) refl there (rows_changed ts rs beside)
    where
      by : (b : Bool) → has name t ≡ b → is_none (cond b (Some t) (find (has name) ts)) ≡ false
          → (lacks name ts ≡ false → rows_named name ts (changed_instance ts (edits_of_one name pairs) rs)
          ≡ changed (option_map_or (λ (u : Table). key_place u.definition.columns) (find (has name) ts) 0) pairs (rows_named name ts rs))
          → cond b (changed (key_place t.definition.columns) (pairs_of (name_of t) (edits_of_one name pairs)) r)
          (rows_named name ts (changed_instance ts (edits_of_one name pairs) rs))
          ≡ changed (option_map_or (λ (u : Table). key_place u.definition.columns) (cond b (Some t) (find (has name) ts)) 0) pairs
          (cond b r (rows_named name ts rs))
      by true own there later = ap (λ ps. changed (key_place t.definition.columns) ps r) (pairs_of-own name pairs (name_of t) own)
      by false differs there later = later there
  rows_changed [] (r ∷ rs) beside there = absurd beside
  rows_changed (t ∷ ts) [] beside there = absurd beside

  -- .. and those of any other name stay.
  pub rows_of_others : (other : List ℕ) → same_name name other ≡ false → (ts : List Table) (rows : Instance)
      → rows_named other ts (changed_instance ts (edits_of_one name pairs) rows) ≡ rows_named other ts rows
  rows_of_others other differs [] rows = refl
  rows_of_others other differs (t ∷ ts) [] = refl
  rows_of_others other differs (t ∷ ts) (r ∷ rs) = by (has other t) refl (rows_of_others other differs ts rs)
    where
      by : (b : Bool) → has other t ≡ b → rows_named other ts (changed_instance ts (edits_of_one name pairs) rs) ≡ rows_named other ts rs
          → cond b (changed (key_place t.definition.columns) (pairs_of (name_of t) (edits_of_one name pairs)) r)
          (rows_named other ts (changed_instance ts (edits_of_one name pairs) rs)) ≡ cond b r (rows_named other ts rs)
      by true own later =
          let apart : same_name name (name_of t) ≡ false = ap (same_name name) (sym (same_bytes other (name_of t) own)) ∙ differs in
          ap (λ ps. changed (key_place t.definition.columns) ps r) (pairs_of-other name pairs (name_of t) apart)
      by false own later = later
