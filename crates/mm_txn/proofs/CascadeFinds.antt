-- The results of the loops over edits, columns and tables.
use Rattle.std.proofs.Common.{◌≡◌, ◌≢◌, ℕ, suc, ◌+◌, ◌<◌, ◌≤◌, Bool, true, false, cond, ◌||◌, ◌==◌, List, [], ◌∷◌, ◌++◌, Option, Some, None, inl, inr, drop}
use Rattle.std.proofs.Common.{drop-cons, filter, find, get_or, length, map, slice_get, take, refl, sym, ap, ◌∙◌, subst, arith}
use Rattle.std.specs.List.{All, Contains, cons_option, filter_map, list_any}
use Rattle.std.specs.Option.{option_map_or}
use Rattle.std.proofs.lemmas.Bool.{eq-eqb, ne_eqb}
use Rattle.std.proofs.lemmas.List.{get_or-map, length-map, map-append, take_more}
use Rattle.std.proofs.lemmas.List.Elements.{All-cons, All-nil, All-push, filter-append, recursion_from_All}
use Rattle.std.proofs.lemmas.List.Folds.{list_any-append}
use Rattle.std.proofs.lemmas.List.Quantifiers.{all_pairs_push}
use Rattle.mm_partition.specs.Places.{slot_at}
use Rattle.mm_txn.specs.RowEdits.{BringNone}
use Rattle.mm_indexed.specs.Kept.{StoredRows}
use Rattle.mm_indexed.specs.Twins.{AreApart}
use Rattle.mm_row_order.specs.Refs.{HasRow, Slots}
use Rattle.mm_indexed.specs.RowLists.{rows_of}
use Rattle.mm_tables.specs.Edits.{Fits}
use Rattle.mm_tables.specs.declared.edit.Edit.{Edit}
use Rattle.mm_tables.specs.declared.edit.Edit.TheVariants.{Delete, Insert, Move, Stage, Update}
use Rattle.mm_schema.specs.Instance.{TableEdits as NamedEdits}
use Rattle.mm_schema.specs.References.{refers}
use Rattle.mm_schema.specs.Rows.{Pair}
use Rattle.mm_schema.specs.Schema.{HasDistinctNames, Schema}
use Rattle.mm_schema.specs.declared.table.Table.{Table}
use Rattle.mm_schema.proofs.Instances.{name_of}
use Rattle.mm_schema.proofs.StrictOrder.{AllByRecursion-IsIn, IsIn, IsIn-from_Contains}
use Rattle.mm_schema.proofs.Duplicates.{Row}
use Rattle.mm_query.specs.Edits.{also, is_cascaded, removals_of, with_cascades}
use Rattle.mm_delta.specs.Steps.{takes}
use Rattle.mm_link.specs.Links.{RefersTo}
use Rattle.mm_store.specs.Edits.{AreFit, old_slot, pairs_of}
use Rattle.mm_store.specs.Tables.{IsAt, Tables, rows_at}
use Rattle.mm_value.specs.declared.row_ref.RowRef.{RowRef}
use Rattle.mm_txn.specs.Cascades.{IsCascade, PlacedCascade, is_cascaded_by, is_cascaded_by_some, placed_cascade}
use Rattle.mm_txn.specs.declared.cascades.Cascade.{Cascade}
use Rattle.mm_plan.specs.Kept.{AreKept, instance_of}
use Rattle.mm_txn.specs.PlacedEdits.{AreEdits, FitsAt, PlacedEdits, edits_at, named, pairs_at, placed}
use Rattle.mm_txn.specs.declared.edits.RelationEdits.{RelationEdits}
use Rattle.mm_txn.proofs.CascadeSteps.{all_done, also_some, one_table, up_to_own}
use Rattle.mm_txn.proofs.CascadePlaces.{some_at}
use Rattle.mm_txn.proofs.CascadeTables.{as_many, fits_within, relation_at, rows_beside}
use Rattle.mm_txn.proofs.Referrers.{rows_taken, target_goes, tests}

-- ---- edits of one table

fits_live : (key : ℕ) (now : Slots) (e : Edit) → Fits key now e → (at : RowRef) → old_slot e ≡ Some at → HasRow now at
fits_live key now (Stage other) fits at name = cc
fits_live key now (Insert other) fits at name = cc
fits_live key now (Update taken other) fits at name = let same : taken ≡ at = cc in subst (HasRow now) same fits.0
fits_live key now (Move taken other) fits at name = let same : taken ≡ at = cc in subst (HasRow now) same fits.0
fits_live key now (Delete taken) fits at name = let same : taken ≡ at = cc in subst (HasRow now) same fits

same_at : (store : Tables) (place : ℕ) (a b : StoredRows) → IsAt store place a → IsAt store place b → a ≡ b
same_at store place a b at_a at_b = let both : Some a ≡ Some b = sym at_a ∙ at_b in cc

pub fits_relation : (store : Tables) (change : PlacedEdits) → FitsAt store change → (target : StoredRows) → IsAt store change.0 target → AreFit target change.1
fits_relation store change fit target at = subst (λ (s : StoredRows). AreFit s change.1) (same_at store change.0 fit.0 target fit.1 at) fit.2

-- The row that an edit deletes exists.
pub gone_live : (store : Tables) (change : PlacedEdits) → FitsAt store change → (target : StoredRows) → IsAt store change.0 target → (k : ℕ) (d : Edit)
    → k < length change.1 → (at : RowRef) → old_slot (get_or change.1 k d) ≡ Some at → HasRow (slot_at target.places) at
gone_live store change fit target there k d within at name =
    fits_live target.key (slot_at target.places) (get_or change.1 k d) ((fits_relation store change fit target there).ready.fits k d within) at name

-- Edits and the rows that they delete cascade to the same rows.
pub is_cascaded_by_at : (store : Tables) (column : ℕ) (change : PlacedEdits) (target : StoredRows) → IsAt store change.0 target → (row : Row)
    → tests column target.key (rows_taken (slot_at target.places) change.1) row ≡ is_cascaded_by store.tables column change row
is_cascaded_by_at store column change target at row = λ i.
    list_any (refers column (option_map_or (λ (s : StoredRows). s.key) (sym at i) 0) row)
    (filter_map (λ (p : Pair). p.0) (option_map_or (λ (s : StoredRows). pairs_of (slot_at s.places) change.1) (sym at i) []))

-- The row that a row refers to is deleted exactly if the deletion cascades to the row.
pub scan_goes : (store : Tables) (table column : ℕ) (change : PlacedEdits) → IsCascade store table column change → (row : Row) (found : RowRef)
    → (target : StoredRows) × (to : ℕ) × Contains store.links (record { from = table; column = column; to = to }) × IsAt store to target
    × RefersTo column target.key (slot_at target.places) row found
    → ((target : StoredRows) → IsAt store change.0 target → AreApart target.key (slot_at target.places))
    → list_any (takes found) change.1 ≡ is_cascaded_by store.tables column change row
scan_goes store table column change is row found (target, to, link, at, refers_to) apart =
    let own : IsAt store change.0 target = subst (λ n. IsAt store n target) (is.link.1 to link) at in
    target_goes column target (apart target own) row found refers_to change.1 (fits_relation store change is.fit target own).ready.fits
    ∙ is_cascaded_by_at store column change target own row

pub filter_push : (q : RowRef → Bool) (xs : List RowRef) (x : RowRef) (b : Bool) → q x ≡ b → filter q (xs ++ x ∷ []) ≡ filter q xs ++ cond b (x ∷ []) []
filter_push q xs x b is = filter-append q xs (x ∷ []) ∙ ap (λ c. filter q xs ++ cond c (x ∷ []) []) is

-- The deletions found at a later place.
pub removals_found : (own : PlacedEdits) (cascaded : List RelationEdits) (place k : ℕ) (x : RelationEdits) → k < length cascaded → x ≡ get_or cascaded k x
    → x.table ≡ place → own.0 ≢ place → edits_at (map placed (drop k cascaded)) place ≡ edits_at (map placed cascaded) place
    → x.edits ≡ edits_at (own ∷ map placed cascaded) place
removals_found own cascaded place k x within is here other rest =
    sym (ap (λ b. option_map_or (λ (d : PlacedEdits). d.1) (cond b (Some (placed x))
    (find (λ (d : PlacedEdits). d.0 == place) (map placed (drop (suc k) cascaded)))) [])
    (eq-eqb x.table place here))
    ∙ ap (λ xs. edits_at (map placed xs) place) (sym (drop-cons cascaded k x within ∙ ap (λ y. y ∷ drop (suc k) cascaded) (sym is)))
    ∙ rest
    ∙ sym (ap (λ b. option_map_or (λ (d : PlacedEdits). d.1) (cond b (Some own) (find (λ (d : PlacedEdits). d.0 == place) (map placed cascaded))) [])
    (ne_eqb own.0 place other))

-- ---- columns

pub cascade_so : (P : PlacedCascade → Type 0) (cascades : List PlacedCascade) → All P cascades → (cs : List Cascade) → map placed_cascade cs ≡ cascades
    → (k : ℕ) (d : Cascade) → k < length cs → P (placed_cascade (get_or cs k d))
cascade_so P cascades all cs same k d within =
    subst P (ap (λ xs. get_or xs k (placed_cascade d)) (sym same) ∙ get_or-map placed_cascade cs k d (placed_cascade d) within)
    (all k (placed_cascade d) (subst (λ n. k < n) (sym (length-map cs placed_cascade) ∙ ap length same) within))

pub placed_cascade_push : (rs : List StoredRows) (cs : List Cascade) (k : ℕ) (d : Cascade) → k < length cs → (row : Row)
    → (is_cascaded_by_some rs (map placed_cascade (take k cs)) row || is_cascaded_by rs (placed_cascade (get_or cs k d)).0
    (placed_cascade (get_or cs k d)).1 row)
    ≡ is_cascaded_by_some rs (map placed_cascade (take (k + 1) cs)) row
placed_cascade_push rs cs k d within row =
    let c : Cascade = get_or cs k d in
    sym
    (ap (λ xs. is_cascaded_by_some rs (map placed_cascade xs) row) (take_more cs k d within)
    ∙ ap (λ xs. is_cascaded_by_some rs xs row) (map-append placed_cascade (take k cs) (c ∷ []))
    ∙ list_any-append (λ (a : PlacedCascade). is_cascaded_by rs a.0 a.1 row) (map placed_cascade (take k cs)) (placed_cascade c ∷ [])
    ∙ ap (λ b. is_cascaded_by_some rs (map placed_cascade (take k cs)) row || b) (or_false (is_cascaded_by rs c.column (c.to, c.gone.now) row)))
  where
    or_false : (b : Bool) → (b || false) ≡ b
    or_false true = refl
    or_false false = refl

-- ---- tables

pub one_edited : (store : Tables) (own : PlacedEdits) → FitsAt store own → AreEdits store (own ∷ [])
one_edited store own fit = record {
  fit = All-cons (FitsAt store) own [] fit (All-nil (FitsAt store));
  ascend = λ i j d before within. absurd (omega (arith, before, within));
  removals = λ more. absurd (omega (arith, more));
}

pub one_more : (store : Tables) (cs : List PlacedEdits) (c : PlacedEdits) → AreEdits store cs → FitsAt store c → All (λ (d : PlacedEdits). d.0 < c.0) cs
    → All (λ (d : PlacedEdits). BringNone d.1) cs → BringNone c.1 → AreEdits store (cs ++ c ∷ [])
one_more store cs c are fit before removals none = record {
  fit = All-push (FitsAt store) cs c are.fit fit;
  ascend = all_pairs_push (λ (a b : PlacedEdits). a.0 < b.0) cs c are.ascend before;
  removals = λ more. All-push (λ (d : PlacedEdits). BringNone d.1) cs c removals none;
}

module _ (schema : Schema) (store : Tables) (kept : AreKept schema store) (distinct : HasDistinctNames schema) where
  abbrev rs : List StoredRows
  rs = store.tables

  abbrev rest_from : ℕ → List NamedEdits → List NamedEdits
  rest_from k es = with_cascades schema (drop k schema.tables) (drop k (instance_of rs)) es

  table_of : (k : ℕ) → k < length rs → (t : Table) × (slice_get schema.tables k ≡ Some t)
  table_of k within = some_at schema.tables k (subst (λ n. k < n) (sym (as_many schema.tables rs kept.relations)) within)

  -- The tables up to that of the command add no deletions.
  pub rest_at_first : (own : PlacedEdits) → FitsAt store own
      → with_cascades schema schema.tables (instance_of rs) (named schema rs own ∷ []) ≡ rest_from (own.0 + 1) (named schema rs own ∷ [])
  rest_at_first own fit =
      let (t, at) = table_of own.0 (fits_within store own fit) in
      up_to_own schema (named schema rs own) [] refl own.0 schema.tables (instance_of rs) kept.back distinct t at
      (ap (λ o. option_map_or (λ (u : Table). u.definition.name) o []) at)

  module _ (table : ℕ) (within : table < length schema.tables) (edits : List Edit) (cs : List PlacedEdits)
      (pairs : (t : Table) → slice_get schema.tables table ≡ Some t → pairs_at rs (table, edits)
      ≡ removals_of (filter (is_cascaded schema (map (named schema rs) cs) t.definition.columns) (rows_at rs table))) where
    abbrev before : List NamedEdits
    before = map (named schema rs) cs

    next : rest_from table before ≡ rest_from (table + 1) (also before (named schema rs (table, edits)).table (pairs_at rs (table, edits)))
    next =
        let (t, at) = some_at schema.tables table within in
        let beside = relation_at schema.tables rs kept.relations table t at in
        let name : name_of t ≡ (named schema rs (table, edits)).table = sym (ap (λ o. option_map_or (λ (u : Table). u.definition.name) o []) at) in
        let rows : rows_of beside.stored ≡ rows_at rs table = sym (ap (λ o. option_map_or rows_of o []) beside.at) in
        one_table schema schema.tables (instance_of rs) table t (rows_of beside.stored) before at (rows_beside rs table beside.stored beside.at)
        ∙ (λ i. rest_from (table + 1) (also before (name i) (removals_of (filter (is_cascaded schema before t.definition.columns) (rows i)))))
        ∙ ap (λ ps. rest_from (table + 1) (also before (named schema rs (table, edits)).table ps)) (sym (pairs t at))

    -- A table that adds no deletions, ..
    pub none_more : edits ≡ [] → rest_from table before ≡ rest_from (table + 1) before
    none_more none = next ∙ ap (λ ps. rest_from (table + 1) (also before (named schema rs (table, edits)).table ps)) no_pairs
      where
        at_none : (o : Option StoredRows) → option_map_or (λ (s : StoredRows). pairs_of (slot_at s.places) []) o [] ≡ []
        at_none None = refl
        at_none (Some s) = refl

        no_pairs : pairs_at rs (table, edits) ≡ []
        no_pairs = ap (λ (es : List Edit). pairs_at rs (table, es)) none ∙ at_none (slice_get rs table)

    -- .. and one that adds some.
    pub some_more : edits ≢ [] → rest_from table before ≡ rest_from (table + 1) (map (named schema rs) (cs ++ (table, edits) ∷ []))
    some_more some =
        next ∙ ap (rest_from (table + 1)) (also_some before (named schema rs (table, edits)).table (pairs_at rs (table, edits)) pairs_there
        ∙ sym (map-append (named schema rs) cs ((table, edits) ∷ [])))
      where
        not_none : (s : StoredRows) (es : List Edit) → es ≢ [] → pairs_of (slot_at s.places) es ≢ []
        not_none s [] there none = there refl
        not_none s (e ∷ es) there none = cc

        pairs_there : pairs_at rs (table, edits) ≢ []
        pairs_there none =
            let stored = some_at rs table (subst (λ n. table < n) (as_many schema.tables rs kept.relations) within) in
            not_none stored.0 edits some
            (sym (ap (λ o. option_map_or (λ (s : StoredRows). pairs_of (slot_at s.places) edits) o []) stored.1) ∙ none)

  pub rest_at_last : (k : ℕ) → length schema.tables ≤ k → (es : List NamedEdits) → rest_from k es ≡ es
  rest_at_last k past es = all_done schema schema.tables (instance_of rs) k es past
