-- The tables that CASCADE columns refer to, and the relations there.
use Rattle.std.proofs.Common.{◌≡◌, ◌≢◌, ℕ, zero, suc, ◌+◌, ◌<◌, Bool, true, false, cond, ◌||◌, ◌==◌, List, [], ◌∷◌, Option, Some, None, inl, inr, find}
use Rattle.std.proofs.Common.{is_none, length, map, slice_get, refl, sym, ap, ◌∙◌, subst, arith}
use Rattle.std.specs.List.{All, AllByRecursion, cons_option, filter_map, list_any}
use Rattle.std.specs.Option.{option_map_or, unwrap_or}
use Rattle.std.proofs.lemmas.Bool.{eqb-true, false≢true}
use Rattle.std.proofs.lemmas.List.Elements.{All-from_recursion, recursion_from_All}
use Rattle.mm_partition.specs.Places.{slot_at}
use Rattle.mm_indexed.specs.Kept.{StoredRows}
use Rattle.mm_store.specs.Edits.{pairs_of}
use Rattle.mm_indexed.specs.RowLists.{rows_of}
use Rattle.mm_tables.specs.declared.edit.Edit.{Edit}
use Rattle.mm_schema.specs.Columns.{cascading_target, key_place, target_of}
use Rattle.mm_schema.specs.References.{HasTargets, cascading_from, cascading_of, in_front, references_from, references_of, refers}
use Rattle.mm_schema.specs.Rows.{Pair}
use Rattle.mm_schema.specs.Schema.{HasDistinctNames, Schema, key_named, lacks_table, lacks_target, table_place}
use Rattle.mm_schema.specs.declared.column.Column.{Column}
use Rattle.mm_schema.specs.declared.table.Table.{Table}
use Rattle.mm_schema.proofs.Places.{no_table, place_within, table_at_place}
use Rattle.mm_schema.proofs.StrictOrder.{IsIn}
use Rattle.mm_schema.proofs.Duplicates.{Row}
use Rattle.mm_query.proofs.FoundTargets.{none_among}
use Rattle.mm_query.specs.Edits.{is_cascaded, old_rows}
use Rattle.mm_base.specs.Columns.{IsReference}
use Rattle.mm_store.specs.Tables.{Tables, key_at}
use Rattle.mm_txn.specs.Cascades.{IsCascade, PlacedCascade, cascade_to, cascades_from, is_cascaded_by, is_cascaded_by_some, unless_none}
use Rattle.mm_plan.specs.Kept.{AreKept, AreOf, IsOf, instance_of}
use Rattle.mm_txn.specs.PlacedEdits.{AreEdits, FitsAt, PlacedEdits, edits_at, named}
use Rattle.mm_txn.proofs.CascadePlaces.{some_at, Ascends, among_references, ascends_from, goes_at_place, is_reference}

-- ---- tables and relations at one place

pub record Beside (table : Table) (rs : List StoredRows) (k : ℕ) : Type 0 where
  pub stored : StoredRows
  pub at : slice_get rs k ≡ Some stored
  pub of : IsOf table stored

pub relation_at : (ts : List Table) (rs : List StoredRows) → AreOf ts rs → (k : ℕ) (t : Table) → slice_get ts k ≡ Some t → Beside t rs k
relation_at [] rs are k t at = cc
relation_at (x ∷ xs) [] are k t at = absurd are
relation_at (x ∷ xs) (r ∷ rs) are zero t at = let same : x ≡ t = cc in record { stored = r; at = refl; of = subst (λ (u : Table). IsOf u r) same are.0 }
relation_at (x ∷ xs) (r ∷ rs) are (suc k) t at =
    let later = relation_at xs rs are.1 k t at in record { stored = later.stored; at = later.at; of = later.of }

pub as_many : (ts : List Table) (rs : List StoredRows) → AreOf ts rs → length ts ≡ length rs
as_many [] [] are = refl
as_many (t ∷ ts) (r ∷ rs) are = ap suc (as_many ts rs are.1)
as_many [] (r ∷ rs) are = absurd are
as_many (t ∷ ts) [] are = absurd are

pub within_at : {X : Type 0} (xs : List X) (k : ℕ) (x : X) → slice_get xs k ≡ Some x → k < length xs
within_at [] k x at = cc
within_at (y ∷ ys) zero x at = omega arith
within_at (y ∷ ys) (suc k) x at = let later = within_at ys k x at in omega (arith, later)

pub rows_beside : (rs : List StoredRows) (k : ℕ) (stored : StoredRows) → slice_get rs k ≡ Some stored → slice_get (instance_of rs) k ≡ Some (rows_of stored)
rows_beside [] k stored at = cc
rows_beside (r ∷ rs) zero stored at = let same : r ≡ stored = cc in ap (λ (s : StoredRows). Some (rows_of s)) same
rows_beside (r ∷ rs) (suc k) stored at = rows_beside rs k stored at

table_so : (P : Table → Type 0) (ts : List Table) → AllByRecursion P ts → (k : ℕ) (t : Table) → slice_get ts k ≡ Some t → P t
table_so P [] all k t at = cc
table_so P (x ∷ xs) all zero t at = let same : x ≡ t = cc in subst P same all.0
table_so P (x ∷ xs) all (suc k) t at = table_so P xs all.1 k t at

-- ---- the tables that columns refer to

module _ (schema : Schema) where
  placed_if_there : (name : List ℕ) → lacks_table name schema ≡ false → (k : ℕ) × (table_place name schema ≡ Some k)
  placed_if_there name there = by (table_place name schema) refl
    where
      by : (o : Option ℕ) → table_place name schema ≡ o → (k : ℕ) × (table_place name schema ≡ Some k)
      by None none = absurd (false≢true (sym there ∙ ap is_none (no_table name schema none)))
      by (Some k) is = (k, is)

  targets_there : (n : ℕ) (cs : List Column) → list_any (lacks_target schema) cs ≡ false → (r : ℕ × List ℕ) → IsIn r (references_from n cs)
      → lacks_table r.1 schema ≡ false
  targets_there n [] none r here = absurd here
  targets_there n (c ∷ cs) none r here =
      let first : lacks_target schema c ≡ false = none_among (lacks_target schema) (c ∷ cs) c (inl refl) none in
      let rest : list_any (lacks_target schema) cs ≡ false = later_none (lacks_target schema c) none in
      by (target_of c) first here (targets_there (n + 1) cs rest r)
    where
      later_none : (b : Bool) → (b || list_any (lacks_target schema) cs) ≡ false → list_any (lacks_target schema) cs ≡ false
      later_none true e = cc
      later_none false e = e

      by : (o : Option (List ℕ)) → option_map_or (λ m. lacks_table m schema) o false ≡ false → IsIn r (in_front n o (references_from (n + 1) cs))
          → (IsIn r (references_from (n + 1) cs) → lacks_table r.1 schema ≡ false) → lacks_table r.1 schema ≡ false
      by None first there later = later there
      by (Some m) first (inl same) later = ap (λ (q : ℕ × List ℕ). lacks_table q.1 schema) (sym same) ∙ first
      by (Some m) first (inr there) later = later there

  -- The table that a column of the table at a place refers to has a place.
  pub target_placed : HasTargets schema → (place : ℕ) (t : Table) → slice_get schema.tables place ≡ Some t → (r : ℕ × List ℕ)
      → IsIn r (references_of t.definition.columns) → (k : ℕ) × (table_place r.1 schema ≡ Some k)
  target_placed targets place t at r here =
      placed_if_there r.1 (targets_there 0 t.definition.columns
      (table_so (λ (u : Table). list_any (lacks_target schema) u.definition.columns ≡ false) schema.tables
      (recursion_from_All (λ (u : Table). list_any (lacks_target schema) u.definition.columns ≡ false) schema.tables targets) place t at) r here)

  pub key_of_place : (rs : List StoredRows) → AreOf schema.tables rs → (name : List ℕ) (k : ℕ) → table_place name schema ≡ Some k
      → key_named name schema ≡ key_at rs k
  key_of_place rs are name k placed =
      let (t, at) = some_at schema.tables k (place_within name schema k placed) in
      let beside = relation_at schema.tables rs are k t at in
      ap (λ o. option_map_or (λ (u : Table). key_place u.definition.columns) o 0) (table_at_place name schema k placed ∙ at)
      ∙ sym beside.of.key ∙ sym (ap (λ o. option_map_or (λ (s : StoredRows). s.key) o 0) beside.at)

-- ---- edits of existing tables

pub fits_within : (store : Tables) (c : PlacedEdits) → FitsAt store c → c.0 < length store.tables
fits_within store c fit = within_at store.tables c.0 fit.0 fit.1

all_within : (store : Tables) (n : ℕ) → n ≡ length store.tables → (cs : List PlacedEdits) → AllByRecursion (FitsAt store) cs
    → AllByRecursion (λ (c : PlacedEdits). c.0 < n) cs
all_within store n same [] fit = tt
all_within store n same (c ∷ cs) fit = (let first = fits_within store c fit.0 in omega (arith, first, same), all_within store n same cs fit.1)

find_fits : (store : Tables) (place : ℕ) (cs : List PlacedEdits) → AllByRecursion (FitsAt store) cs → edits_at cs place ≢ []
    → FitsAt store (place, edits_at cs place)
find_fits store place [] fit some = absurd (some refl)
find_fits store place (c ∷ cs) fit some = by (c.0 == place) refl some (find_fits store place cs fit.1)
  where
    found : Bool → List Edit
    found b = option_map_or (λ (d : PlacedEdits). d.1) (cond b (Some c) (find (λ (d : PlacedEdits). d.0 == place) cs)) []

    by : (b : Bool) → (c.0 == place) ≡ b → found b ≢ [] → (edits_at cs place ≢ [] → FitsAt store (place, edits_at cs place)) → FitsAt store (place, found b)
    by true is some later = subst (λ (n : ℕ). FitsAt store (n, c.1)) (eqb-true c.0 place is) fit.0
    by false is some later = later some

-- ---- the columns by which rows are cascaded

-- A column refers to the table with its name, and to no other.
pub record Refers (schema : Schema) (store : Tables) (place : ℕ) (column : ℕ × List ℕ) : Type 0 where
  pub to : ℕ
  pub placed : table_place column.1 schema ≡ Some to
  pub link : IsReference store.links place column.0 to

pub refers_there : (schema : Schema) (store : Tables) → AreKept schema store → (place : ℕ) (t : Table) → slice_get schema.tables place ≡ Some t
    → (r : ℕ × List ℕ) → IsIn r (cascading_of t.definition.columns) → Refers schema store place r
refers_there schema store kept place t at r here =
    let among : IsIn r (references_of t.definition.columns) = among_references 0 t.definition.columns r here in
    let target = target_placed schema kept.targets place t at r among in
    record {
      to = target.0;
      placed = target.1;
      link = subst (λ links. IsReference links place r.0 target.0) (sym kept.links) (is_reference schema place t at r.0 r.1 among target.0 target.1);
    }

no_row_gone : (rs : List StoredRows) (column to : ℕ) (row : Row) → is_cascaded_by rs column (to, []) row ≡ false
no_row_gone rs column to row = by (slice_get rs to)
  where
    by : (o : Option StoredRows) → list_any (refers column (key_at rs to) row)
        (filter_map (λ (p : Pair). p.0) (option_map_or (λ (stored : StoredRows). pairs_of (slot_at stored.places) []) o [])) ≡ false
    by None = refl
    by (Some stored) = refl

goes_unless : (rs : List StoredRows) (column to : ℕ) (edits : List Edit) (rest : List PlacedCascade) (row : Row)
    → is_cascaded_by_some rs (cons_option (unless_none column to edits) rest) row
    ≡ (is_cascaded_by rs column (to, edits) row || is_cascaded_by_some rs rest row)
goes_unless rs column to [] rest row = ap (λ b. b || is_cascaded_by_some rs rest row) (sym (no_row_gone rs column to row))
goes_unless rs column to (edit ∷ edits) rest row = refl

module _ (schema : Schema) (store : Tables) (kept : AreKept schema store) (distinct : HasDistinctNames schema) (place : ℕ) (cs : List PlacedEdits)
    (fit : AllByRecursion (FitsAt store) cs) (ascend : Ascends cs) where
  abbrev rs : List StoredRows
  rs = store.tables

  there : AllByRecursion (λ (c : PlacedEdits). c.0 < length schema.tables) cs
  there = all_within store (length schema.tables) (as_many schema.tables store.tables kept.relations) cs fit

  abbrev by_column : Row → ℕ × List ℕ → Bool
  by_column row r = list_any (refers r.0 (key_named r.1 schema) row) (old_rows r.1 (map (named schema rs) cs))

  abbrev IsPlacedCascade : PlacedCascade → Type 0
  IsPlacedCascade a = IsCascade store place a.0 a.1

  -- Deletions cascade by the columns with edits exactly to the rows to which they cascade by the columns of the catalog, ..
  go_same : (n : ℕ) (columns : List Column) → ((r : ℕ × List ℕ) → IsIn r (cascading_from n columns) → Refers schema store place r) → (row : Row)
      → is_cascaded_by_some rs (cascades_from schema cs n columns) row ≡ list_any (by_column row) (cascading_from n columns)
  go_same n [] each row = refl
  go_same n (c ∷ columns) each row = by (cascading_target c) each (λ later. go_same (n + 1) columns later row)
    where
      by : (o : Option (List ℕ)) → ((r : ℕ × List ℕ) → IsIn r (in_front n o (cascading_from (n + 1) columns)) → Refers schema store place r)
          → (((r : ℕ × List ℕ) → IsIn r (cascading_from (n + 1) columns) → Refers schema store place r)
          → is_cascaded_by_some rs (cascades_from schema cs (n + 1) columns) row ≡ list_any (by_column row) (cascading_from (n + 1) columns))
          → is_cascaded_by_some rs (cons_option (cascade_to schema cs n o) (cascades_from schema cs (n + 1) columns)) row
          ≡ list_any (by_column row) (in_front n o (cascading_from (n + 1) columns))
      by None each later = later each
      by (Some name) each later =
          let r = each (n, name) (inl refl) in
          let to : unwrap_or (table_place name schema) 0 ≡ r.to = ap (λ o. unwrap_or o 0) r.placed in
          let rest = later (λ q here. each q (inr here)) in
          ap (λ k. is_cascaded_by_some rs (cons_option (unless_none n k (edits_at cs k)) (cascades_from schema cs (n + 1) columns)) row) to
          ∙ goes_unless rs n r.to (edits_at cs r.to) (cascades_from schema cs (n + 1) columns) row
          ∙ (λ i. sym (goes_at_place schema distinct rs name r.to r.placed (key_of_place schema rs kept.relations name r.to r.placed) n cs there ascend row) i
          || rest i)

  -- .. and these columns refer to the tables of their names.
  are_cascades : (n : ℕ) (columns : List Column) → ((r : ℕ × List ℕ) → IsIn r (cascading_from n columns) → Refers schema store place r)
      → AllByRecursion IsPlacedCascade (cascades_from schema cs n columns)
  are_cascades n [] each = tt
  are_cascades n (c ∷ columns) each = by (cascading_target c) each (are_cascades (n + 1) columns)
    where
      one : (to : ℕ) → IsReference store.links place n to → (edits : List Edit) → edits_at cs to ≡ edits → (rest : List PlacedCascade)
          → AllByRecursion IsPlacedCascade rest
          → AllByRecursion IsPlacedCascade (cons_option (unless_none n to edits) rest)
      one to link [] is rest later = later
      one to link (edit ∷ edits) is rest later = (
        record {
          link = link;
          fit = subst (λ (es : List Edit). FitsAt store (to, es)) is
              (find_fits store to cs fit (λ none. let both : [] ≡ edit ∷ edits = sym none ∙ is in cc));
        },
        later,
      )

      by : (o : Option (List ℕ)) → ((r : ℕ × List ℕ) → IsIn r (in_front n o (cascading_from (n + 1) columns)) → Refers schema store place r)
          → (((r : ℕ × List ℕ) → IsIn r (cascading_from (n + 1) columns) → Refers schema store place r)
          → AllByRecursion IsPlacedCascade (cascades_from schema cs (n + 1) columns))
          → AllByRecursion IsPlacedCascade (cons_option (cascade_to schema cs n o) (cascades_from schema cs (n + 1) columns))
      by None each later = later each
      by (Some name) each later =
          let r = each (n, name) (inl refl) in
          let to : unwrap_or (table_place name schema) 0 ≡ r.to = ap (λ o. unwrap_or o 0) r.placed in
          subst (λ k. AllByRecursion IsPlacedCascade (cons_option (unless_none n k (edits_at cs k)) (cascades_from schema cs (n + 1) columns))) (sym to)
          (one r.to r.link (edits_at cs r.to) refl (cascades_from schema cs (n + 1) columns) (later (λ q here. each q (inr here))))

-- The columns of a table at a place, with the edits of the tables that they refer to:
module _ (schema : Schema) (store : Tables) (kept : AreKept schema store) (distinct : HasDistinctNames schema) (cs : List PlacedEdits) (are : AreEdits store cs)
    (place : ℕ) (t : Table) (at : slice_get schema.tables place ≡ Some t) where
  pub cascades_go : (row : Row) → is_cascaded_by_some store.tables (cascades_from schema cs 0 t.definition.columns) row
      ≡ is_cascaded schema (map (named schema store.tables) cs) t.definition.columns row
  cascades_go row = go_same schema store kept distinct place cs (recursion_from_All (FitsAt store) cs are.fit) (ascends_from cs are.ascend) 0
      t.definition.columns
      (refers_there schema store kept place t at) row

  -- The columns refer to the tables of their edits.
  pub cascades_are : All (λ (a : PlacedCascade). IsCascade store place a.0 a.1) (cascades_from schema cs 0 t.definition.columns)
  cascades_are = All-from_recursion (λ (a : PlacedCascade). IsCascade store place a.0 a.1) (cascades_from schema cs 0 t.definition.columns)
      (are_cascades schema store kept distinct place cs (recursion_from_All (FitsAt store) cs are.fit) (ascends_from cs are.ascend) 0 t.definition.columns
      (refers_there schema store kept place t at))
