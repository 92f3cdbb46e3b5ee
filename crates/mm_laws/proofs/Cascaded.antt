-- A DELETE deletes no rows but those that it names and the cascaded ones.
use Rattle.std.proofs.Common.{◌≡◌, ℕ, Bool, true, false, cond, List, [], ◌∷◌, Option, Some, None, inl, inr, filter, refl, sym, ap, subst, ◌∙◌}
use Rattle.std.specs.List.{AllByRecursion, filter_map, flat_map, list_any}
use Rattle.std.proofs.lemmas.Bool.{cases_Bool}
use Rattle.mm_schema.specs.Instance.{Instance, TableEdits, pairs_of}
use Rattle.mm_schema.specs.Name.{same_name}
use Rattle.mm_schema.specs.References.{cascading_of, refers}
use Rattle.mm_schema.specs.Rows.{Pair}
use Rattle.mm_schema.specs.Schema.{Schema, key_named}
use Rattle.mm_schema.specs.declared.table.Table.{Table}
use Rattle.mm_schema.proofs.Instances.{name_of}
use Rattle.mm_schema.proofs.NameLemmas.{same_bytes}
use Rattle.mm_schema.proofs.StrictOrder.{AllByRecursion-append, IsIn}
use Rattle.mm_schema.proofs.Duplicates.{Row}
use Rattle.mm_query.specs.Edits.{also, is_cascaded, old_rows, removals_of, with_cascades}
use Rattle.mm_query.proofs.FoundTargets.{some_among}

-- A test holds of the old row of a pair, if it has one.
abbrev pub HoldsOf : (Row → Bool) → Option Row → Type 0
HoldsOf p None = Unit {0}
HoldsOf p (Some row) = p row ≡ true

-- What holds of all rows that pass another test holds of the deletions of these.
pub filter_holds : (p q : Row → Bool) → ((row : Row) → p row ≡ true → q row ≡ true) → (rows : List Row)
    → AllByRecursion (λ (pair : Pair). HoldsOf q pair.0) (removals_of (filter p rows))
filter_holds p q each [] = tt
filter_holds p q each (r ∷ rs) = by (p r) refl (filter_holds p q each rs)
  where
    by : (b : Bool) → p r ≡ b → AllByRecursion (λ (pair : Pair). HoldsOf q pair.0) (removals_of (filter p rs))
        → AllByRecursion (λ (pair : Pair). HoldsOf q pair.0) (removals_of (cond b (r ∷ filter p rs) (filter p rs)))
    by true passes later = (each r passes, later)
    by false fails later = later

module _ (P : List ℕ → Row → Bool) where
  -- The test of a table holds of all rows that edits delete from it.
  abbrev pub EachHolds : TableEdits → Type 0
  EachHolds e = AllByRecursion (λ (p : Pair). HoldsOf (P e.table) p.0) e.pairs

  old_in_pairs : (name : List ℕ) (pairs : List Pair) → AllByRecursion (λ (p : Pair). HoldsOf (P name) p.0) pairs → (row : Row)
      → IsIn row (filter_map (λ (p : Pair). p.0) pairs) → P name row ≡ true
  old_in_pairs name [] each row here = absurd here
  old_in_pairs name ((None, new) ∷ ps) each row here = old_in_pairs name ps each.1 row here
  old_in_pairs name ((Some old, new) ∷ ps) each row (inl same) = ap (P name) (sym same) ∙ each.0
  old_in_pairs name ((Some old, new) ∷ ps) each row (inr later) = old_in_pairs name ps each.1 row later

  each_pair : (name : List ℕ) (es : List TableEdits) → AllByRecursion EachHolds es → AllByRecursion (λ (p : Pair). HoldsOf (P name) p.0) (pairs_of name es)
  each_pair name [] each = tt
  each_pair name (e ∷ es) each = elim (cases_Bool (same_name e.table name)) [
    | inl own ↦
        let to : e.table ≡ name = same_bytes e.table name own in
        subst (λ (b : Bool). AllByRecursion (λ (p : Pair). HoldsOf (P name) p.0)
        (flat_map (λ (x : TableEdits). x.pairs) (cond b (e ∷ filter (λ (x : TableEdits). same_name x.table name) es)
        (filter (λ (x : TableEdits). same_name x.table name) es))))
        (sym own)
        (AllByRecursion-append (λ (p : Pair). HoldsOf (P name) p.0) e.pairs (pairs_of name es)
        (subst (λ n. AllByRecursion (λ (p : Pair). HoldsOf (P n) p.0) e.pairs) to each.0) (each_pair name es each.1))
    | inr other ↦
        subst (λ (b : Bool). AllByRecursion (λ (p : Pair). HoldsOf (P name) p.0)
        (flat_map (λ (x : TableEdits). x.pairs) (cond b (e ∷ filter (λ (x : TableEdits). same_name x.table name) es)
        (filter (λ (x : TableEdits). same_name x.table name) es))))
        (sym other) (each_pair name es each.1)
  ]

  pub each_old : (es : List TableEdits) → AllByRecursion EachHolds es → (name : List ℕ) (row : Row) → IsIn row (old_rows name es) → P name row ≡ true
  each_old es each name row here = old_in_pairs name (pairs_of name es) (each_pair name es each) row here

  -- The test is closed: it holds of each row that has the key of a row of which it holds in a CASCADE column.
  abbrev pub IsClosed : Schema → Type 0
  IsClosed schema = (table : Table) (row : Row) (r : ℕ × List ℕ) (target : Row) → IsIn r (cascading_of table.definition.columns)
      → refers r.0 (key_named r.1 schema) row target ≡ true → P r.1 target ≡ true → P table.definition.name row ≡ true

  module _ (schema : Schema) (closed : IsClosed schema) where
    cascaded_holds : (table : Table) (es : List TableEdits) → AllByRecursion EachHolds es → (row : Row)
        → is_cascaded schema es table.definition.columns row ≡ true
        → P table.definition.name row ≡ true
    cascaded_holds table es each row goes =
        let column = some_among (λ (r : ℕ × List ℕ). list_any (refers r.0 (key_named r.1 schema) row) (old_rows r.1 es))
        (cascading_of table.definition.columns) goes in
        let target = some_among (refers column.0.0 (key_named column.0.1 schema) row) (old_rows column.0.1 es) column.2 in
        closed table row column.0 target.0 column.1 target.2 (each_old es each column.0.1 target.0 target.1)

    also_holds : (es : List TableEdits) (name : List ℕ) (pairs : List Pair) → AllByRecursion EachHolds es
        → AllByRecursion (λ (p : Pair). HoldsOf (P name) p.0) pairs → AllByRecursion EachHolds (also es name pairs)
    also_holds es name [] each holds = each
    also_holds es name (p ∷ ps) each holds = AllByRecursion-append EachHolds es (record { table = name; pairs = p ∷ ps } ∷ []) each (holds, tt)

    -- A closed test that holds of the rows that deletions name holds of all cascaded rows.
    pub cascades_hold : (ts : List Table) (rows : Instance) (es : List TableEdits) → AllByRecursion EachHolds es
        → AllByRecursion EachHolds (with_cascades schema ts rows es)
    cascades_hold [] rows es each = each
    cascades_hold (t ∷ ts) [] es each = each
    cascades_hold (t ∷ ts) (r ∷ rs) es each =
        let cascaded : List Row = filter (is_cascaded schema es t.definition.columns) r in
        cascades_hold ts rs (also es (name_of t) (removals_of cascaded)) (also_holds es (name_of t) (removals_of cascaded) each
        (filter_holds (is_cascaded schema es t.definition.columns) (P (name_of t)) (cascaded_holds t es each) r))
