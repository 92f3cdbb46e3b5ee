-- No remaining row has the key of a deleted row in a CASCADE column.
use Rattle.std.proofs.Common.{◌≡◌, ℕ, ◌+◌, Bool, true, false, cond, ◌||◌, ◌⊎◌, List, [], ◌∷◌, ◌++◌, Option, Some, None, inl, inr, filter, map, refl, sym, ap}
use Rattle.std.proofs.Common.{subst, ◌∙◌, append_assoc}
use Rattle.std.specs.List.{AllByRecursion, IsDistinct, filter_map, flat_map, list_any}
use Rattle.std.specs.Option.{option_map_or}
use Rattle.std.specs.Prelude.{find}
use Rattle.std.specs.Ordering.{ordering_reverse}
use Rattle.std.specs.declared.cmp.Ordering.{Ordering}
use Rattle.std.specs.declared.cmp.Ordering.TheVariants.{Equal, Greater, Less}
use Rattle.std.proofs.lemmas.Bool.{cases_Bool, false≢true}
use Rattle.std.proofs.lemmas.List.{append-nil}
use Rattle.std.proofs.lemmas.Map.Keys.{IsDistinct-head, IsDistinct-tail}
use Rattle.mm_schema.specs.Columns.{cascades, key_place, target_of}
use Rattle.mm_schema.specs.Instance.{Instance, TableEdits, changed_instance, pairs_of, rows_named}
use Rattle.mm_schema.specs.Name.{same_name}
use Rattle.mm_schema.specs.References.{RefersBack, cascading_from, cascading_of, in_front, references_from, references_of, refers}
use Rattle.mm_schema.specs.Rows.{Pair, column_cmp}
use Rattle.mm_schema.specs.Schema.{Schema, key_named}
use Rattle.mm_schema.specs.declared.column.Column.{Column}
use Rattle.mm_schema.specs.declared.table.Table.{Table}
use Rattle.mm_schema.proofs.ChangedRows.{no_other_row}
use Rattle.mm_schema.proofs.Instances.{AreBeside, LackName, name_of}
use Rattle.mm_schema.proofs.NameLemmas.{differs_back, same_bytes, same_name_refl}
use Rattle.mm_schema.proofs.References.{lacks}
use Rattle.mm_schema.proofs.StrictOrder.{AllByRecursion-IsIn, AllByRecursion-append, Contains-from_IsIn, IsIn, IsIn-from_Contains}
use Rattle.mm_schema.proofs.Duplicates.{Row, column_cmp_total}
use Rattle.mm_query.specs.Edits.{also, is_cascaded, old_rows, removals_of, with_cascades}
use Rattle.mm_query.specs.Machine.{after_edits}
use Rattle.mm_query.proofs.FoundTargets.{some_among}
use Rattle.mm_laws.proofs.NamedRows.{has, rows_changed}
use Rattle.mm_laws.proofs.Removals.{AreRemovals, EachRemoves, cascades_remove}
use Rattle.mm_laws.proofs.StillFound.{adds_none, beside_still, no_rows_lacking, were_there}

-- ---- the pairs of a name

pairs_of-append : (name : List ℕ) (xs ys : List TableEdits) → pairs_of name (xs ++ ys) ≡ pairs_of name xs ++ pairs_of name ys
pairs_of-append name [] ys = refl
pairs_of-append name (e ∷ xs) ys = by (same_name e.table name) (pairs_of-append name xs ys)
  where
    by : (b : Bool) → pairs_of name (xs ++ ys) ≡ pairs_of name xs ++ pairs_of name ys
        → flat_map (λ (x : TableEdits). x.pairs) (cond b (e ∷ filter (λ (x : TableEdits). same_name x.table name) (xs ++ ys))
        (filter (λ (x : TableEdits). same_name x.table name) (xs ++ ys)))
        ≡ flat_map (λ (x : TableEdits). x.pairs) (cond b (e ∷ filter (λ (x : TableEdits). same_name x.table name) xs)
        (filter (λ (x : TableEdits). same_name x.table name) xs)) ++ pairs_of name ys
    by true later = ap (λ ps. e.pairs ++ ps) later ∙ sym (append_assoc e.pairs (pairs_of name xs) (pairs_of name ys))
    by false later = later

pairs_of_one : (name : List ℕ) (e : TableEdits) (b : Bool) → same_name e.table name ≡ b → pairs_of name (e ∷ []) ≡ cond b e.pairs []
pairs_of_one name e b is = by (same_name e.table name) ∙ ap (λ (c : Bool). cond c e.pairs []) is
  where
    by : (c : Bool) → flat_map (λ (x : TableEdits). x.pairs) (cond c (e ∷ []) []) ≡ cond c e.pairs []
    by true = append-nil e.pairs
    by false = refl

pairs_of-also_other : (name : List ℕ) (es : List TableEdits) (table : List ℕ) (pairs : List Pair) → same_name table name ≡ false
    → pairs_of name (also es table pairs) ≡ pairs_of name es
pairs_of-also_other name es table [] other = refl
pairs_of-also_other name es table (p ∷ ps) other =
    pairs_of-append name es (record { table = table; pairs = p ∷ ps } ∷ [])
    ∙ (ap (λ qs. pairs_of name es ++ qs) (pairs_of_one name (record { table = table; pairs = p ∷ ps }) false other) ∙ append-nil (pairs_of name es))

pairs_of-also_own : (name : List ℕ) (es : List TableEdits) (pairs : List Pair) → pairs_of name (also es name pairs) ≡ pairs_of name es ++ pairs
pairs_of-also_own name es [] = sym (append-nil (pairs_of name es))
pairs_of-also_own name es (p ∷ ps) =
    pairs_of-append name es (record { table = name; pairs = p ∷ ps } ∷ [])
    ∙ ap (λ qs. pairs_of name es ++ qs) (pairs_of_one name (record { table = name; pairs = p ∷ ps }) true (same_name_refl name))

module _ (schema : Schema) where
  -- Tables with other names add no pairs for a name.
  old_rows_kept : (name : List ℕ) (ts : List Table) (rows : Instance) (es : List TableEdits) → LackName name ts
      → old_rows name (with_cascades schema ts rows es) ≡ old_rows name es
  old_rows_kept name [] rows es lack = refl
  old_rows_kept name (t ∷ ts) [] es lack = refl
  old_rows_kept name (t ∷ ts) (r ∷ rs) es lack =
      let cascaded : List Pair = removals_of (filter (is_cascaded schema es t.definition.columns) r) in
      old_rows_kept name ts rs (also es (name_of t) cascaded) lack.1
      ∙ ap (filter_map (λ (p : Pair). p.0)) (pairs_of-also_other name es (name_of t) cascaded (differs_back name (name_of t) lack.0))

  -- Which rows are cascaded depends only on the deletions from the tables that are referred to.
  cascaded_kept : (columns : List Column) (row : Row) (es fs : List TableEdits)
      → ((r : ℕ × List ℕ) → IsIn r (cascading_of columns) → old_rows r.1 es ≡ old_rows r.1 fs) → is_cascaded schema es columns row
      ≡ is_cascaded schema fs columns row
  cascaded_kept columns row es fs same = by (cascading_of columns) same
    where
      by : (rs : List (ℕ × List ℕ)) → ((r : ℕ × List ℕ) → IsIn r rs → old_rows r.1 es ≡ old_rows r.1 fs)
          → list_any (λ (r : ℕ × List ℕ). list_any (refers r.0 (key_named r.1 schema) row) (old_rows r.1 es)) rs
          ≡ list_any (λ (r : ℕ × List ℕ). list_any (refers r.0 (key_named r.1 schema) row) (old_rows r.1 fs)) rs
      by [] each = refl
      by (r ∷ rs) each = λ i. list_any (refers r.0 (key_named r.1 schema) row) (each r (inl refl) i) || by rs (λ q later. each q (inr later)) i

-- ---- remaining rows

itself : (key : ℕ) (row : Row) → column_cmp key row row ≡ Equal
itself key row = by (column_cmp key row row) ((column_cmp_total key).antisymm row row)
  where
    by : (o : Ordering) → o ≡ ordering_reverse o → o ≡ Equal
    by Less e = cc
    by Equal e = refl
    by Greater e = cc

old_pair : (pairs : List Pair) (row : Row) → IsIn row (filter_map (λ (p : Pair). p.0) pairs) → (new : Option Row) × IsIn {X = Pair} (Some row, new) pairs
old_pair [] row here = absurd here
old_pair ((None, new) ∷ ps) row here = let found = old_pair ps row here in (found.0, inr found.1)
old_pair ((Some old, new) ∷ ps) row (inl same) = (new, inl (ap (λ (r : Row). (Some r, new)) same))
old_pair ((Some old, new) ∷ ps) row (inr later) = let found = old_pair ps row later in (found.0, inr found.1)

front_or_behind : (ps qs : List Pair) (row : Row) → IsIn row (filter_map (λ (p : Pair). p.0) (ps ++ qs))
    → IsIn row (filter_map (λ (p : Pair). p.0) ps) ⊎ IsIn row (filter_map (λ (p : Pair). p.0) qs)
front_or_behind [] qs row here = inr here
front_or_behind ((None, new) ∷ ps) qs row here = front_or_behind ps qs row here
front_or_behind ((Some old, new) ∷ ps) qs row (inl same) = inl (inl same)
front_or_behind ((Some old, new) ∷ ps) qs row (inr later) = elim (front_or_behind ps qs row later) [ inl front ↦ inl (inr front) | inr behind ↦ inr behind ]

in_behind : (ps qs : List Pair) (row : Row) → IsIn row (filter_map (λ (p : Pair). p.0) qs) → IsIn row (filter_map (λ (p : Pair). p.0) (ps ++ qs))
in_behind [] qs row here = here
in_behind ((None, new) ∷ ps) qs row here = in_behind ps qs row here
in_behind ((Some old, new) ∷ ps) qs row here = inr (in_behind ps qs row here)

module _ (ts : List Table) (name : List ℕ) where
  old_split : (e : TableEdits) (es : List TableEdits) (row : Row) → IsIn row (old_rows name (e ∷ es))
      → ((same_name e.table name ≡ true) × IsIn row (filter_map (λ (p : Pair). p.0) e.pairs)) ⊎ IsIn row (old_rows name es)
  old_split e es row here = by (same_name e.table name) refl here
    where
      by : (b : Bool) → same_name e.table name ≡ b
          → IsIn row (filter_map (λ (p : Pair). p.0) (flat_map (λ (x : TableEdits). x.pairs)
          (cond b (e ∷ filter (λ (x : TableEdits). same_name x.table name) es) (filter (λ (x : TableEdits). same_name x.table name) es))))
          → ((same_name e.table name ≡ true) × IsIn row (filter_map (λ (p : Pair). p.0) e.pairs)) ⊎ IsIn row (old_rows name es)
      by true own found = elim (front_or_behind e.pairs (pairs_of name es) row found) [ inl front ↦ inl (own, front) | inr behind ↦ inr behind ]
      by false other found = inr found

  -- A remaining row is none of the deleted ones.
  not_old : (e : TableEdits) (rows : Instance) → AreBeside ts rows → AreRemovals e.pairs → same_name e.table name ≡ true → (row : Row)
      → IsIn row (rows_named name ts (changed_instance ts (e ∷ []) rows)) → IsIn row (filter_map (λ (p : Pair). p.0) e.pairs) → ⊥
  not_old e rows beside removals own row here old =
      let to : e.table ≡ name = same_bytes e.table name own in
      let now : IsIn row (rows_named e.table ts (changed_instance ts (e ∷ []) rows)) =
      subst (λ n. IsIn row (rows_named n ts (changed_instance ts (e ∷ []) rows))) (sym to) here in
      elim (cases_Bool (lacks e.table ts)) [
        | inl none ↦ subst (IsIn row) (no_rows_lacking e.table ts (changed_instance ts (e ∷ []) rows) none) now
        | inr there ↦
            elim (no_other_row (option_map_or (λ (t : Table). key_place t.definition.columns) (find (has e.table) ts) 0) e.pairs (rows_named e.table ts rows)
            row
            (Contains-from_IsIn _ row (subst (IsIn row) (rows_changed e.table e.pairs ts rows beside there) now))) [
              | inl come ↦
                  let none : ◌≡◌ {A = Option Row} (Some row) None =
                  AllByRecursion-IsIn (λ (p : Pair). p.1 ≡ None) e.pairs (come.0, Some row) removals
                  (IsIn-from_Contains {X = Pair} e.pairs (come.0, Some row) come.1) in
                  (let b : ⊥ = cc in b)
              | inr stay ↦
                  let pair = old_pair e.pairs row old in
                  stay.1 row pair.0 (Contains-from_IsIn {X = Pair} e.pairs (Some row, pair.0) pair.1)
                  (itself (option_map_or (λ (t : Table). key_place t.definition.columns) (find (has e.table) ts) 0) row)
            ]
      ]

  stays_apart : (es : List TableEdits) (rows : Instance) → AreBeside ts rows → EachRemoves es → (row : Row)
      → IsIn row (rows_named name ts (after_edits ts es rows)) → IsIn row (old_rows name es) → ⊥
  stays_apart [] rows beside each row here old = old
  stays_apart (e ∷ es) rows beside each row here old =
      let mid : Instance = changed_instance ts (e ∷ []) rows in
      let beside_mid : AreBeside ts mid = beside_still ts (e ∷ []) rows beside in
      elim (old_split e es row old) [
        | inl first ↦ not_old e rows beside each.0 first.0 row (were_there ts name es mid beside_mid (adds_none name es each.1) row here) first.1
        | inr later ↦ stays_apart es mid beside_mid each.1 row here later
      ]

-- ---- the law

-- A CASCADE column is a REF column.
among_references : (n : ℕ) (columns : List Column) (r : ℕ × List ℕ) → IsIn r (cascading_from n columns) → IsIn r (references_from n columns)
among_references n [] r here = absurd here
among_references n (c ∷ cs) r here = by (cascades c) (target_of c) here (among_references (n + 1) cs r)
  where
    by : (b : Bool) (target : Option (List ℕ)) → IsIn r (in_front n (cond b target None) (cascading_from (n + 1) cs))
        → (IsIn r (cascading_from (n + 1) cs) → IsIn r (references_from (n + 1) cs)) → IsIn r (in_front n target (references_from (n + 1) cs))
    by true None here later = later here
    by true (Some name) (inl same) later = inl same
    by true (Some name) (inr rest) later = inr (later rest)
    by false None here later = later here
    by false (Some name) here later = inr (later here)

-- An element of a list that passes a test is in the filtered list.
passes : (p : Row → Bool) (rows : List Row) (row : Row) → IsIn row rows → p row ≡ true → IsIn row (filter_map (λ (q : Pair). q.0) (removals_of (filter p rows)))
passes p [] row here is = absurd here
passes p (r ∷ rs) row here is = by (p r) refl here (passes p rs row)
  where
    by : (b : Bool) → p r ≡ b → IsIn row (r ∷ rs) → (IsIn row rs → p row ≡ true → IsIn row (filter_map (λ (q : Pair). q.0) (removals_of (filter p rs))))
        → IsIn row (filter_map (λ (q : Pair). q.0) (removals_of (cond b (r ∷ filter p rs) (filter p rs))))
    by true own (inl same) later = inl same
    by true own (inr rest) later = inr (later rest is)
    by false fails (inl same) later = absurd (false≢true (sym fails ∙ ap p same ∙ is))
    by false fails (inr rest) later = later rest is

-- Each row of these tables that the edits do not delete has the key of no deleted row in a CASCADE column.
abbrev Closed : Schema → List TableEdits → List Table → Instance → Type 0
Closed schema gone [] rows = Unit {0}
Closed schema gone (t ∷ ts) [] = Unit {0}
Closed schema gone (t ∷ ts) (r ∷ rs) =
    ((row : Row) → IsIn row r → (IsIn row (old_rows (name_of t) gone) → ⊥) → is_cascaded schema gone t.definition.columns row ≡ false)
    × Closed schema gone ts rs

not_true : (b : Bool) → (b ≡ true → ⊥) → b ≡ false
not_true true none = absurd (none refl)
not_true false none = refl

module _ (schema : Schema) where
  -- The tables lack all earlier names.
  abbrev LackAll : List (List ℕ) → List Table → Type 0
  LackAll names ts = AllByRecursion (λ n. LackName n ts) names

  lack_tail : (t : Table) (ts : List Table) (names : List (List ℕ)) → LackAll names (t ∷ ts) → LackAll names ts
  lack_tail t ts [] lack = tt
  lack_tail t ts (n ∷ names) lack = (lack.0.1, lack_tail t ts names lack.1)

  lacking : (names : List (List ℕ)) (ts : List Table) (name : List ℕ) → list_any (same_name name) names ≡ true → LackAll names ts → LackName name ts
  lacking names ts name some lack =
      let found = some_among (same_name name) names some in
      subst (λ n. LackName n ts) (sym (same_bytes name found.0 found.2)) (AllByRecursion-IsIn (λ n. LackName n ts) names found.0 lack found.1)

  each_closed : (names : List (List ℕ)) (ts : List Table) (rows : Instance) (es : List TableEdits) → RefersBack names ts → LackAll names ts
      → IsDistinct same_name (map name_of ts) → (gone : List TableEdits) → gone ≡ with_cascades schema ts rows es → Closed schema gone ts rows
  each_closed names [] rows es back lack distinct gone is = tt
  each_closed names (t ∷ ts) [] es back lack distinct gone is = tt
  each_closed names (t ∷ ts) (r ∷ rs) es back lack distinct gone is = (
    λ row here stays.
        let same : is_cascaded schema gone t.definition.columns row ≡ is_cascaded schema es t.definition.columns row =
        cascaded_kept schema t.definition.columns row gone es (λ q column.
        ap (old_rows q.1) is ∙ old_rows_kept schema q.1 (t ∷ ts) (r ∷ rs) es
        (lacking names (t ∷ ts) q.1
        (AllByRecursion-IsIn (λ (p : ℕ × List ℕ). list_any (same_name p.1) names ≡ true) (references_of t.definition.columns) q back.0
        (among_references 0 t.definition.columns q column)) lack)) in
        same ∙ not_true (is_cascaded schema es t.definition.columns row) (λ goes. stays (went row here goes)),
    each_closed (names ++ name_of t ∷ []) ts rs later back.1
        (AllByRecursion-append (λ n. LackName n ts) names (name_of t ∷ []) (lack_tail t ts names lack) (first, tt))
        (IsDistinct-tail same_name (name_of t) (map name_of ts) distinct) gone is,
  )
    where
      cascaded : List Pair
      cascaded = removals_of (filter (is_cascaded schema es t.definition.columns) r)

      later : List TableEdits
      later = also es (name_of t) cascaded

      first : LackName (name_of t) ts
      first = IsDistinct-head same_name (name_of t) (map name_of ts) distinct

      went : (row : Row) → IsIn row r → is_cascaded schema es t.definition.columns row ≡ true → IsIn row (old_rows (name_of t) gone)
      went row here goes =
          subst (IsIn row) (sym (ap (old_rows (name_of t)) is ∙ (old_rows_kept schema (name_of t) ts rs later first
          ∙ ap (filter_map (λ (p : Pair). p.0)) (pairs_of-also_own (name_of t) es cascaded))))
          (in_behind (pairs_of (name_of t) es) cascaded row (passes (is_cascaded schema es t.definition.columns) r row here goes))

  at_table : (gone : List TableEdits) (ts : List Table) (rows : Instance) → IsDistinct same_name (map name_of ts) → Closed schema gone ts rows → (t : Table)
      → IsIn t ts
      → (row : Row) → IsIn row (rows_named (name_of t) ts rows) → (IsIn row (old_rows (name_of t) gone) → ⊥)
      → is_cascaded schema gone t.definition.columns row ≡ false
  at_table gone [] rows distinct closed t there row here stays = absurd there
  at_table gone (u ∷ us) [] distinct closed t there row here stays = absurd here
  at_table gone (u ∷ us) (r ∷ rs) distinct closed t (inl same) row here stays =
      let own : same_name (name_of t) (name_of u) ≡ true = ap (λ (v : Table). same_name (name_of t) (name_of v)) same ∙ same_name_refl (name_of t) in
      let in_first : IsIn row r = subst (λ (b : Bool). IsIn row (cond b r (rows_named (name_of t) us rs))) own here in
      ap (λ (v : Table). is_cascaded schema gone v.definition.columns row) (sym same)
      ∙ closed.0 row in_first (subst (λ (v : Table). IsIn row (old_rows (name_of v) gone) → ⊥) (sym same) stays)
  at_table gone (u ∷ us) (r ∷ rs) distinct closed t (inr later) row here stays =
      let apart : same_name (name_of u) (name_of t) ≡ false =
      other_name us (IsDistinct-head same_name (name_of u) (map name_of us) distinct) t later in
      at_table gone us rs (IsDistinct-tail same_name (name_of u) (map name_of us) distinct) closed.1 t later row
      (subst (λ (b : Bool). IsIn row (cond b r (rows_named (name_of t) us rs))) (differs_back (name_of u) (name_of t) apart) here) stays
    where
      other_name : (vs : List Table) → LackName (name_of u) vs → (v : Table) → IsIn v vs → same_name (name_of u) (name_of v) ≡ false
      other_name [] lack v there = absurd there
      other_name (w ∷ ws) lack v (inl same) = ap (λ (x : Table). same_name (name_of u) (name_of x)) (sym same) ∙ lack.0
      other_name (w ∷ ws) lack v (inr rest) = other_name ws lack.1 v rest

  -- After deletions and their cascades, the deletions cascade to no remaining row.
  pub none_is_cascaded : (rows : Instance) (es : List TableEdits) → EachRemoves es → AreBeside schema.tables rows → RefersBack [] schema.tables
      → IsDistinct same_name (map name_of schema.tables) → (t : Table) → IsIn t schema.tables
      → let gone = with_cascades schema schema.tables rows es in
      (row : Row) → IsIn row (rows_named (name_of t) schema.tables (after_edits schema.tables gone rows)) → is_cascaded schema gone t.definition.columns row
      ≡ false
  none_is_cascaded rows es each beside back distinct t there row here =
      let gone : List TableEdits = with_cascades schema schema.tables rows es in
      let removes : EachRemoves gone = cascades_remove schema schema.tables rows es each in
      at_table gone schema.tables rows distinct (each_closed [] schema.tables rows es back tt distinct gone refl) t there row
      (were_there schema.tables (name_of t) gone rows beside (adds_none (name_of t) gone removes) row here)
      (stays_apart schema.tables (name_of t) gone rows beside removes row here)
