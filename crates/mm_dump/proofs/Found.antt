-- A table among others whose names are distinct, and its rows.
use Rattle.std.proofs.Common.{◌≡◌, ℕ, Bool, true, false, cond, ◌||◌, List, [], ◌∷◌, ◌++◌, Some, find, map, refl, ap, ◌∙◌}
use Rattle.std.specs.List.{AllByRecursion, IsDistinct, list_any}
use Rattle.std.proofs.lemmas.Bool.{false≢true}
use Rattle.std.proofs.lemmas.Map.Keys.{IsDistinct-head, IsDistinct-tail}
use Rattle.mm_value.specs.declared.values.Value.{Value}
use Rattle.mm_schema.specs.Instance.{Instance, changed_instance, rows_named}
use Rattle.mm_schema.specs.Columns.{key_place}
use Rattle.mm_schema.specs.Name.{same_name}
use Rattle.mm_schema.specs.Rows.{Pair, changed}
use Rattle.mm_schema.specs.declared.table.Table.{Table}
use Rattle.mm_schema.proofs.Instances.{AreBeside, LackName, changed_instance-others, edits_of_one, name_of, others_lack, pairs_of-own}
use Rattle.mm_schema.proofs.NameLemmas.{differs_back, same_name_refl}
use Rattle.mm_laws.proofs.NamedRows.{has}

-- No two tables have one name.
abbrev pub AreDistinct : List Table → Type 0
AreDistinct tables = IsDistinct same_name (map name_of tables)

-- Tables after others are distinct too.
distinct_behind : (front tables : List Table) → AreDistinct (front ++ tables) → AreDistinct tables
distinct_behind [] tables distinct = distinct
distinct_behind (f ∷ fs) tables distinct =
    distinct_behind fs tables (IsDistinct-tail same_name (name_of f) (map name_of (fs ++ tables)) distinct)

-- a property of each element holds for one in the middle
in_middle : (P : List ℕ → Type 0) (fs : List Table) (t : Table) (ts : List Table) → AllByRecursion P (map name_of (fs ++ t ∷ ts)) → P (name_of t)
in_middle P [] t ts all = all.0
in_middle P (f ∷ fs) t ts all = in_middle P fs t ts all.1

module _ (front : List Table) (t : Table) (behind : List Table) (distinct : AreDistinct (front ++ t ∷ behind)) where
  -- The tables before a table have other names, ..
  pub lack_before : LackName (name_of t) front
  lack_before = by front distinct
    where
      by : (fs : List Table) → AreDistinct (fs ++ t ∷ behind) → LackName (name_of t) fs
      by [] distinct = tt
      by (f ∷ fs) distinct = (
        differs_back (name_of f) (name_of t)
            (in_middle (λ other. same_name (name_of f) other ≡ false) fs t behind
            (IsDistinct-head same_name (name_of f) (map name_of (fs ++ t ∷ behind)) distinct)),
        by fs (IsDistinct-tail same_name (name_of f) (map name_of (fs ++ t ∷ behind)) distinct),
      )

  -- .. and so have those after it.
  pub lack_behind : LackName (name_of t) behind
  lack_behind = others_lack (name_of t) t behind (same_name_refl (name_of t)) (distinct_behind front (t ∷ behind) distinct)

-- A name that tables lack is found after them.
found_behind : (name : List ℕ) (front behind : List Table) → LackName name front → find (has name) (front ++ behind) ≡ find (has name) behind
found_behind name [] behind lack = refl
found_behind name (f ∷ fs) behind lack =
    ap (λ b. cond b (Some f) (find (has name) (fs ++ behind))) lack.0 ∙ found_behind name fs behind lack.1

rows_found_behind : (name : List ℕ) (front behind : List Table) (done others : Instance) → AreBeside front done → LackName name front
    → rows_named name (front ++ behind) (done ++ others) ≡ rows_named name behind others
rows_found_behind name [] behind [] others beside lack = refl
rows_found_behind name (f ∷ fs) behind (d ∷ ds) others beside lack =
    ap (λ b. cond b d (rows_named name (fs ++ behind) (ds ++ others))) lack.0 ∙ rows_found_behind name fs behind ds others beside lack.1
rows_found_behind name [] behind (d ∷ ds) others beside lack = absurd beside
rows_found_behind name (f ∷ fs) behind [] others beside lack = absurd beside

module _ (front : List Table) (t : Table) (behind : List Table) (distinct : AreDistinct (front ++ t ∷ behind)) where
  pub found_here : find (has (name_of t)) (front ++ t ∷ behind) ≡ Some t
  found_here =
      found_behind (name_of t) front (t ∷ behind) (lack_before front t behind distinct)
      ∙ ap (λ b. cond b (Some t) (find (has (name_of t)) behind)) (same_name_refl (name_of t))

  pub rows_found_here : (done : Instance) (rows : List (List Value)) (others : Instance) → AreBeside front done
      → rows_named (name_of t) (front ++ t ∷ behind) (done ++ rows ∷ others) ≡ rows
  rows_found_here done rows others beside =
      rows_found_behind (name_of t) front (t ∷ behind) done (rows ∷ others) beside (lack_before front t behind distinct)
      ∙ ap (λ b. cond b rows (rows_named (name_of t) behind others)) (same_name_refl (name_of t))

-- If a name is that of one of the tables before, its rows are those beside these tables.
pub rows_found_before : (name : List ℕ) (front behind : List Table) (done others : Instance) → AreBeside front done
    → list_any (same_name name) (map name_of front) ≡ true → rows_named name (front ++ behind) (done ++ others) ≡ rows_named name front done
rows_found_before name [] behind [] others beside some = absurd (false≢true some)
rows_found_before name (f ∷ fs) behind (d ∷ ds) others beside some = by (has name f) some (rows_found_before name fs behind ds others beside)
  where
    by : (b : Bool) → (b || list_any (same_name name) (map name_of fs)) ≡ true
        → (list_any (same_name name) (map name_of fs) ≡ true → rows_named name (fs ++ behind) (ds ++ others) ≡ rows_named name fs ds)
        → cond b d (rows_named name (fs ++ behind) (ds ++ others)) ≡ cond b d (rows_named name fs ds)
    by true some later = refl
    by false some later = later some
rows_found_before name [] behind (d ∷ ds) others beside some = absurd beside
rows_found_before name (f ∷ fs) behind [] others beside some = absurd beside

-- A change of the rows of one table changes only its own rows.
module _ (name : List ℕ) (pairs : List Pair) where
  changed_parts : (front behind : List Table) (done others : Instance) → AreBeside front done
      → changed_instance (front ++ behind) (edits_of_one name pairs) (done ++ others)
      ≡ changed_instance front (edits_of_one name pairs) done ++ changed_instance behind (edits_of_one name pairs) others
  changed_parts [] behind [] others beside = refl
  changed_parts (f ∷ fs) behind (d ∷ ds) others beside =
      ap (λ l. changed_instance (f ∷ []) (edits_of_one name pairs) (d ∷ []) ++ l) (changed_parts fs behind ds others beside)
  changed_parts [] behind (d ∷ ds) others beside = absurd beside
  changed_parts (f ∷ fs) behind [] others beside = absurd beside

module _ (front : List Table) (t : Table) (behind : List Table) (distinct : AreDistinct (front ++ t ∷ behind)) (pairs : List Pair) where
  pub changed_here : (done : Instance) (rows : List (List Value)) (others : Instance) → AreBeside front done → AreBeside behind others
      → changed_instance (front ++ t ∷ behind) (edits_of_one (name_of t) pairs) (done ++ rows ∷ others)
      ≡ done ++ changed (key_place t.definition.columns) pairs rows ∷ others
  changed_here done rows others before after =
      changed_parts (name_of t) pairs front (t ∷ behind) done (rows ∷ others) before
      ∙ (λ i. changed_instance-others (name_of t) pairs front done before (lack_before front t behind distinct) i
      ++ changed (key_place t.definition.columns) (pairs_of-own (name_of t) pairs (name_of t) (same_name_refl (name_of t)) i) rows
      ∷ changed_instance-others (name_of t) pairs behind others after (lack_behind front t behind distinct) i)
