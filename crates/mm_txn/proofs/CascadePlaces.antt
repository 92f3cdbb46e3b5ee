-- The rows that named edits delete, and the columns by which they cascade, by the places of tables.
use Rattle.std.proofs.Common.{◌≡◌, ℕ, zero, suc, ◌+◌, ◌<◌, ◌≤◌, ◌==◌, Bool, true, false, cond, ◌⊎◌, List, [], ◌∷◌, ◌++◌, Option, Some, None, inl, inr, filter}
use Rattle.std.proofs.Common.{find, length, map, slice_get, refl, sym, ap, ◌∙◌, subst, append-nil, arith}
use Rattle.std.specs.List.{AllByRecursion, AllPairs, IsDistinct, filter_map, flat_map, list_any}
use Rattle.std.specs.Option.{option_map_or, unwrap_or}
use Rattle.std.proofs.lemmas.Bool.{eq-eqb, eqb-true, false≢true, ne_eqb}
use Rattle.std.proofs.lemmas.List.Elements.{recursion_from_All}
use Rattle.std.proofs.lemmas.Map.Keys.{IsDistinct-head, IsDistinct-tail}
use Rattle.mm_partition.specs.Places.{slot_at}
use Rattle.mm_indexed.specs.Kept.{StoredRows}
use Rattle.mm_store.specs.Edits.{pairs_of as edit_pairs}
use Rattle.mm_schema.specs.Columns.{cascades, cascading_target, target_of}
use Rattle.mm_schema.specs.Instance.{TableEdits, pairs_of}
use Rattle.mm_schema.specs.Name.{same_name}
use Rattle.mm_schema.specs.References.{all_references, cascading_from, in_front, reference_at, references_behind, references_from, references_of, refers}
use Rattle.mm_schema.specs.Rows.{Pair}
use Rattle.mm_schema.specs.Schema.{HasDistinctNames, Schema, key_named, table_place}
use Rattle.mm_schema.specs.declared.column.Column.{Column}
use Rattle.mm_schema.specs.declared.reference.Reference.{Reference}
use Rattle.mm_schema.specs.declared.table.Table.{Table}
use Rattle.mm_schema.proofs.Instances.{LackName, name_of}
use Rattle.mm_schema.proofs.NameLemmas.{differs_back, same_bytes, same_name_refl}
use Rattle.mm_schema.proofs.Places.{place_within, table_at_place}
use Rattle.mm_schema.proofs.StrictOrder.{Contains-from_IsIn, IsIn, IsIn-from_Contains}
use Rattle.mm_schema.proofs.Duplicates.{Row}
use Rattle.mm_query.specs.Edits.{old_rows}
use Rattle.mm_link.proofs.Referring.{agree}
use Rattle.mm_base.specs.Columns.{IsReference}
use Rattle.mm_store.specs.Tables.{key_at}
use Rattle.mm_txn.specs.Cascades.{is_cascaded_by}
use Rattle.mm_txn.specs.PlacedEdits.{PlacedEdits, edits_at, named, pairs_at}

-- ---- names at places

-- A list of tables that lacks a name has no table with it.
pub lacks_at : (name : List ℕ) (ts : List Table) → LackName name ts → (k : ℕ) (t : Table) → slice_get ts k ≡ Some t → same_name name (name_of t) ≡ false
lacks_at name [] lack k t there = cc
lacks_at name (x ∷ xs) lack zero t there = let same : x ≡ t = cc in ap (λ (u : Table). same_name name (name_of u)) (sym same) ∙ lack.0
lacks_at name (x ∷ xs) lack (suc k) t there = lacks_at name xs lack.1 k t there

one_place : (ts : List Table) → IsDistinct same_name (map name_of ts) → (j k : ℕ) (t u : Table) → slice_get ts j ≡ Some t → slice_get ts k ≡ Some u
    → same_name (name_of t) (name_of u) ≡ true → j ≡ k
one_place [] distinct j k t u at_j at_k same = cc
one_place (x ∷ xs) distinct zero zero t u at_j at_k same = refl
one_place (x ∷ xs) distinct zero (suc k) t u at_j at_k same =
    let own : x ≡ t = cc in
    absurd (false≢true (sym (lacks_at (name_of x) xs (IsDistinct-head same_name (name_of x) (map name_of xs) distinct) k u at_k)
    ∙ ap (λ (v : Table). same_name (name_of v) (name_of u)) own ∙ same))
one_place (x ∷ xs) distinct (suc j) zero t u at_j at_k same =
    let own : x ≡ u = cc in
    absurd (false≢true (sym (differs_back (name_of x) (name_of t)
    (lacks_at (name_of x) xs (IsDistinct-head same_name (name_of x) (map name_of xs) distinct) j t at_j))
    ∙ ap (λ (v : Table). same_name (name_of t) (name_of v)) own ∙ same))
one_place (x ∷ xs) distinct (suc j) (suc k) t u at_j at_k same =
    ap suc (one_place xs (IsDistinct-tail same_name (name_of x) (map name_of xs) distinct) j k t u at_j at_k same)

found_passes : {X : Type 0} (p : X → Bool) (xs : List X) (x : X) → find p xs ≡ Some x → p x ≡ true
found_passes p [] x e = cc
found_passes p (y ∷ ys) x e =
    elim (p y) as (λ b. p y ≡ b → cond b (Some y) (find p ys) ≡ Some x → p x ≡ true) [
      | true ↦ λ is h. let same : y ≡ x = cc in ap p (sym same) ∙ is
      | false ↦ λ is h. found_passes p ys x h
    ] refl e

pub some_at : {X : Type 0} (xs : List X) (k : ℕ) → k < length xs → (x : X) × (slice_get xs k ≡ Some x)
some_at [] k within = absurd (omega (arith, within))
some_at (x ∷ xs) zero within = (x, refl)
some_at (x ∷ xs) (suc k) within = some_at xs k (omega (arith, within))

-- the name of the table at a place
abbrev name_at : Schema → ℕ → List ℕ
name_at schema place = option_map_or (λ (t : Table). t.definition.name) (slice_get schema.tables place) []

module _ (schema : Schema) (distinct : HasDistinctNames schema) (name : List ℕ) (to : ℕ) (placed : table_place name schema ≡ Some to) where
  -- A table has the name exactly if its place is that of the name.
  same_place : (place : ℕ) → place < length schema.tables → same_name (name_at schema place) name ≡ (place == to)
  same_place place within =
      let (t, at) = some_at schema.tables place within in
      let (u, at_to) = some_at schema.tables to (place_within name schema to placed) in
      let own : same_name name (name_of u) ≡ true =
      found_passes (λ (v : Table). same_name name (name_of v)) schema.tables u (table_at_place name schema to placed ∙ at_to) in
      let its : name ≡ name_of u = same_bytes name (name_of u) own in
      let is : name_at schema place ≡ name_of t = ap (λ o. option_map_or (λ (v : Table). v.definition.name) o []) at in
      agree (same_name (name_at schema place) name) (place == to)
      (λ yes. eq-eqb place to (one_place schema.tables distinct place to t u at at_to
      (ap (λ n. same_name n (name_of u)) (sym is) ∙ ap (same_name (name_at schema place)) (sym its) ∙ yes)))
      (λ yes.
      let here : place ≡ to = eqb-true place to yes in
      let both : Some t ≡ Some u = sym at ∙ (ap (slice_get schema.tables) here ∙ at_to) in
      let one : t ≡ u = cc in
      ap (λ n. same_name n name) (is ∙ ap name_of one ∙ sym its) ∙ same_name_refl name)

-- ---- edits at places

-- each change is for a later table than those before it
abbrev pub Ascends : List PlacedEdits → Type 0
Ascends [] = Unit {0}
Ascends (c ∷ cs) = AllByRecursion (λ (d : PlacedEdits). c.0 < d.0) cs × Ascends cs

pub ascends_from : (changes : List PlacedEdits) → AllPairs (λ (a b : PlacedEdits). a.0 < b.0) changes → Ascends changes
ascends_from [] ascend = tt
ascends_from (c ∷ cs) ascend = (
  recursion_from_All (λ (d : PlacedEdits). c.0 < d.0) cs (λ k d within. ascend 0 (suc k) d (omega arith) (omega (arith, within))),
  ascends_from cs (λ i j d before within. ascend (suc i) (suc j) d (omega (arith, before)) (omega (arith, within))),
)

no_pairs : (relations : List StoredRows) (place : ℕ) → pairs_at relations (place, []) ≡ []
no_pairs relations place = by (slice_get relations place)
  where
    by : (o : Option StoredRows) → option_map_or (λ (stored : StoredRows). edit_pairs (slot_at stored.places) []) o [] ≡ []
    by None = refl
    by (Some stored) = refl

module _ (schema : Schema) (distinct : HasDistinctNames schema) (relations : List StoredRows) (name : List ℕ) (to : ℕ)
    (placed : table_place name schema ≡ Some to) where
  abbrev IsThere : PlacedEdits → Type 0
  IsThere c = c.0 < length schema.tables

  abbrev pairs_behind : List PlacedEdits → List Pair
  pairs_behind cs = pairs_of name (map (named schema relations) cs)

  others_none : (cs : List PlacedEdits) → AllByRecursion IsThere cs → AllByRecursion (λ (d : PlacedEdits). (d.0 == to) ≡ false) cs → pairs_behind cs ≡ []
  others_none [] there differ = refl
  others_none (c ∷ cs) there differ =
      ap (λ b. flat_map (λ (e : TableEdits). e.pairs) (cond b
      (named schema relations c ∷ filter (λ (e : TableEdits). same_name e.table name) (map (named schema relations) cs))
      (filter (λ (e : TableEdits). same_name e.table name) (map (named schema relations) cs))))
      (same_place schema distinct name to placed c.0 there.0 ∙ differ.0)
      ∙ others_none cs there.1 differ.1

  later_differ : (c : PlacedEdits) → c.0 ≡ to → (cs : List PlacedEdits) → AllByRecursion (λ (d : PlacedEdits). c.0 < d.0) cs
      → AllByRecursion (λ (d : PlacedEdits). (d.0 == to) ≡ false) cs
  later_differ c here [] later = tt
  later_differ c here (d ∷ ds) later = (
    ne_eqb d.0 to (λ same. let before = later.0 in absurd (omega (arith, before, here, same))),
    later_differ c here ds
        later.1,
  )

  -- The pairs of a name are those of the edits at its place.
  pub pairs_of_place : (cs : List PlacedEdits) → AllByRecursion IsThere cs → Ascends cs → pairs_behind cs ≡ pairs_at relations (to, edits_at cs to)
  pairs_of_place [] there ascend = sym (no_pairs relations to)
  pairs_of_place (c ∷ cs) there ascend =
      ap (λ b. flat_map (λ (e : TableEdits). e.pairs) (cond b
      (named schema relations c ∷ filter (λ (e : TableEdits). same_name e.table name) (map (named schema relations) cs))
      (filter (λ (e : TableEdits). same_name e.table name) (map (named schema relations) cs)))) (same_place schema distinct name to placed c.0 there.0)
      ∙ by (c.0 == to) refl (pairs_of_place cs there.1 ascend.1)
    where
      by : (b : Bool) → (c.0 == to) ≡ b → pairs_behind cs ≡ pairs_at relations (to, edits_at cs to)
          → flat_map (λ (e : TableEdits). e.pairs) (cond b (named schema relations c ∷ filter (λ (e : TableEdits). same_name e.table name)
          (map (named schema relations) cs))
          (filter (λ (e : TableEdits). same_name e.table name) (map (named schema relations) cs)))
          ≡ pairs_at relations (to, option_map_or (λ (d : PlacedEdits). d.1) (cond b (Some c) (find (λ (d : PlacedEdits). d.0 == to) cs)) [])
      by true is later =
          let here : c.0 ≡ to = eqb-true c.0 to is in
          ap (λ ps. pairs_at relations c ++ ps) (others_none cs there.1 (later_differ c here cs ascend.0))
          ∙ append-nil (pairs_at relations c) ∙ ap (λ n. pairs_at relations (n, c.1)) here
      by false is later = later

  -- Named edits cascade to a row by a column exactly if the edits at the place of the column's target do.
  pub goes_at_place : key_named name schema ≡ key_at relations to → (column : ℕ) (cs : List PlacedEdits) → AllByRecursion IsThere cs → Ascends cs → (row : Row)
      → list_any (refers column (key_named name schema) row) (old_rows name (map (named schema relations) cs))
      ≡ is_cascaded_by relations column (to, edits_at cs to) row
  goes_at_place key column cs there ascend row =
      λ i. list_any (refers column (key i) row) (filter_map (λ (p : Pair). p.0) (pairs_of_place cs there ascend i))

-- ---- references of columns

in_either : {X : Type 0} (x : X) (xs ys : List X) → IsIn x (xs ++ ys) → IsIn x xs ⊎ IsIn x ys
in_either x [] ys here = inr here
in_either x (y ∷ xs) ys (inl same) = inl (inl same)
in_either x (y ∷ xs) ys (inr later) = elim (in_either x xs ys later) [ inl first ↦ inl (inr first) | inr second ↦ inr second ]

in_first : {X : Type 0} (x : X) (xs ys : List X) → IsIn x xs → IsIn x (xs ++ ys)
in_first x [] ys here = absurd here
in_first x (y ∷ xs) ys (inl same) = inl same
in_first x (y ∷ xs) ys (inr later) = inr (in_first x xs ys later)

in_second : {X : Type 0} (x : X) (xs ys : List X) → IsIn x ys → IsIn x (xs ++ ys)
in_second x [] ys here = here
in_second x (y ∷ xs) ys here = inr (in_second x xs ys here)

mapped : {X Y : Type 0} (f : X → Y) (xs : List X) (x : X) → IsIn x xs → IsIn (f x) (map f xs)
mapped f [] x here = absurd here
mapped f (y ∷ ys) x (inl same) = inl (ap f same)
mapped f (y ∷ ys) x (inr later) = inr (mapped f ys x later)

from_mapped : {X Y : Type 0} (f : X → Y) (xs : List X) (y : Y) → IsIn y (map f xs) → (x : X) × IsIn x xs × (f x ≡ y)
from_mapped f [] y here = absurd here
from_mapped f (x ∷ xs) y (inl same) = (x, inl refl, same)
from_mapped f (x ∷ xs) y (inr later) = let found = from_mapped f xs y later in (found.0, inr found.1, found.2)

not_past : (n : ℕ) (cs : List Column) (r : ℕ × List ℕ) → IsIn r (references_from n cs) → n ≤ r.0
not_past n [] r here = absurd here
not_past n (c ∷ cs) r here = by (target_of c) here (not_past (n + 1) cs r)
  where
    by : (o : Option (List ℕ)) → IsIn r (in_front n o (references_from (n + 1) cs)) → (IsIn r (references_from (n + 1) cs) → n + 1 ≤ r.0) → n ≤ r.0
    by None there later = let rest = later there in omega (arith, rest)
    by (Some name) (inl same) later = let own : n ≡ r.0 = ap (λ (q : ℕ × List ℕ). q.0) same in omega (arith, own)
    by (Some name) (inr there) later = let rest = later there in omega (arith, rest)

-- A column refers to one table.
one_target : (n : ℕ) (cs : List Column) (q r : ℕ × List ℕ) → IsIn q (references_from n cs) → IsIn r (references_from n cs) → q.0 ≡ r.0 → q.1 ≡ r.1
one_target n [] q r there here same = absurd there
one_target n (c ∷ cs) q r there here same =
    by (target_of c) there here (one_target (n + 1) cs q r)
  where
    apart : (p : ℕ × List ℕ) → IsIn p (references_from (n + 1) cs) → n ≡ p.0 → ⊥
    apart p later own = let past = not_past (n + 1) cs p later in omega (arith, past, own)

    by : (o : Option (List ℕ)) → IsIn q (in_front n o (references_from (n + 1) cs)) → IsIn r (in_front n o (references_from (n + 1) cs))
        → (IsIn q (references_from (n + 1) cs) → IsIn r (references_from (n + 1) cs) → q.0 ≡ r.0 → q.1 ≡ r.1) → q.1 ≡ r.1
    by None first second later = later first second same
    by (Some name) (inl first) (inl second) later = ap (λ (p : ℕ × List ℕ). p.1) (sym first) ∙ ap (λ (p : ℕ × List ℕ). p.1) second
    by (Some name) (inl first) (inr second) later = absurd (apart r second (ap (λ (p : ℕ × List ℕ). p.0) first ∙ same))
    by (Some name) (inr first) (inl second) later = absurd (apart q first (ap (λ (p : ℕ × List ℕ). p.0) second ∙ sym same))
    by (Some name) (inr first) (inr second) later = later first second same

module _ (schema : Schema) where
  there_behind : (i : ℕ) (ts : List Table) (j : ℕ) (t : Table) → slice_get ts j ≡ Some t → (r : ℕ × List ℕ) → IsIn r (references_of t.definition.columns)
      → IsIn (reference_at schema (i + j) r) (references_behind schema i ts)
  there_behind i [] j t at r here = cc
  there_behind i (x ∷ xs) zero t at r here =
      let same : x ≡ t = cc in
      let first : i ≡ i + 0 = omega arith in
      in_first (reference_at schema (i + 0) r) (map (reference_at schema i) (references_of x.definition.columns)) (references_behind schema (i + 1) xs)
      (subst (λ n. IsIn (reference_at schema n r) (map (reference_at schema i) (references_of x.definition.columns))) first
      (mapped (reference_at schema i) (references_of x.definition.columns) r
      (subst (λ (u : Table). IsIn r (references_of u.definition.columns)) (sym same) here)))
  there_behind i (x ∷ xs) (suc j) t at r here =
      let next : (i + 1) + j ≡ i + suc j = omega arith in
      in_second (reference_at schema (i + suc j) r) (map (reference_at schema i) (references_of x.definition.columns)) (references_behind schema (i + 1) xs)
      (subst (λ n. IsIn (reference_at schema n r) (references_behind schema (i + 1) xs)) next (there_behind (i + 1) xs j t at r here))

  pub record Origin (i : ℕ) (ts : List Table) (reference : Reference) : Type 0 where
    pub place : ℕ
    pub table : Table
    pub at : slice_get ts place ≡ Some table
    pub column : ℕ × List ℕ
    pub among : IsIn column (references_of table.definition.columns)
    pub is : reference_at schema (i + place) column ≡ reference

  origin : (i : ℕ) (ts : List Table) (reference : Reference) → IsIn reference (references_behind schema i ts) → Origin i ts reference
  origin i [] reference here = absurd here
  origin i (x ∷ xs) reference here =
      elim (in_either reference (map (reference_at schema i) (references_of x.definition.columns)) (references_behind schema (i + 1) xs) here) [
        | inl own ↦
            let found = from_mapped (reference_at schema i) (references_of x.definition.columns) reference own in
            let first : i + 0 ≡ i = omega arith in
            record { place = 0; table = x; at = refl; column = found.0; among = found.1; is = ap (λ n. reference_at schema n found.0) first ∙ found.2 }
        | inr later ↦
            let found = origin (i + 1) xs reference later in
            let next : i + suc found.place ≡ (i + 1) + found.place = omega arith in
            record {
              place = suc found.place;
              table = found.table;
              at = found.at;
              column = found.column;
              among = found.among;
              is = ap (λ n. reference_at schema n found.column) next ∙ found.is;
            }
      ]

  -- A REF column of the table at a place refers to the table with its name and to no other.
  pub is_reference : (place : ℕ) (table : Table) → slice_get schema.tables place ≡ Some table → (column : ℕ) (name : List ℕ)
      → IsIn {X = ℕ × List ℕ} (column, name) (references_of table.definition.columns) → (to : ℕ) → table_place name schema ≡ Some to
      → IsReference (all_references schema) place column to
  is_reference place table at column name among to placed = (
    Contains-from_IsIn (all_references schema) (record { from = place; column = column; to = to })
        (subst (λ n. IsIn {X = Reference} (record { from = place; column = column; to = n }) (all_references schema)) target
        (subst (λ n. IsIn (reference_at schema n (column, name)) (all_references schema)) first
        (there_behind 0 schema.tables place table at (column, name) among))),
    λ other there.
        let found = origin 0 schema.tables (record { from = place; column = column; to = other })
        (IsIn-from_Contains (all_references schema) (record { from = place; column = column; to = other }) there) in
        let zero_plus : 0 + found.place ≡ found.place = omega arith in
        let here : found.place ≡ place = sym zero_plus ∙ ap (λ (r : Reference). r.from) found.is in
        let both : Some found.table ≡ Some table = sym found.at ∙ (ap (slice_get schema.tables) here ∙ at) in
        let one : found.table ≡ table = cc in
        let names : found.column.1 ≡ name = one_target 0 table.definition.columns found.column (column, name)
        (subst (λ (u : Table). IsIn found.column (references_of u.definition.columns)) one found.among) among (ap (λ (r : Reference). r.column) found.is) in
        sym (ap (λ (r : Reference). r.to) found.is) ∙ ap (λ n. unwrap_or (table_place n schema) 0) names ∙ target,
  )
    where
      first : 0 + place ≡ place
      first = omega arith

      target : unwrap_or (table_place name schema) 0 ≡ to
      target = ap (λ o. unwrap_or o 0) placed

-- ---- CASCADE columns

-- A column that cascades is a REF column.
pub among_references : (n : ℕ) (cs : List Column) (r : ℕ × List ℕ) → IsIn r (cascading_from n cs) → IsIn r (references_from n cs)
among_references n [] r here = here
among_references n (c ∷ cs) r here = by (cascades c) (target_of c) here (among_references (n + 1) cs r)
  where
    by : (b : Bool) (o : Option (List ℕ)) → IsIn r (in_front n (cond b o None) (cascading_from (n + 1) cs))
        → (IsIn r (cascading_from (n + 1) cs) → IsIn r (references_from (n + 1) cs)) → IsIn r (in_front n o (references_from (n + 1) cs))
    by true None there later = later there
    by true (Some name) (inl same) later = inl same
    by true (Some name) (inr there) later = inr (later there)
    by false None there later = later there
    by false (Some name) there later = inr (later there)

-- The column at a place is a CASCADE column if it cascades.
pub cascading_there : (n : ℕ) (cs : List Column) (k : ℕ) (c : Column) (name : List ℕ) → slice_get cs k ≡ Some c → cascading_target c ≡ Some name
    → IsIn {X = ℕ × List ℕ} (n + k, name) (cascading_from n cs)
cascading_there n [] k c name at is = cc
cascading_there n (x ∷ xs) zero c name at is =
    let same : x ≡ c = cc in
    let first : n ≡ n + 0 = omega arith in
    let target : cascading_target x ≡ Some name = ap cascading_target same ∙ is in
    subst (λ (o : Option (List ℕ)). IsIn {X = ℕ × List ℕ} (n + 0, name) (in_front n o (cascading_from (n + 1) xs))) (sym target)
    (inl (ap (λ (m : ℕ). (m, name)) first))
cascading_there n (x ∷ xs) (suc k) c name at is =
    let next : (n + 1) + k ≡ n + suc k = omega arith in
    by (cascading_target x) (subst (λ m. IsIn {X = ℕ × List ℕ} (m, name) (cascading_from (n + 1) xs)) next (cascading_there (n + 1) xs k c name at is))
  where
    by : (o : Option (List ℕ)) → IsIn {X = ℕ × List ℕ} (n + suc k, name) (cascading_from (n + 1) xs)
        → IsIn {X = ℕ × List ℕ} (n + suc k, name) (in_front n o (cascading_from (n + 1) xs))
    by None there = there
    by (Some target) there = inr there
