-- Deletions of rows keep the order of the others.
use Rattle.std.proofs.Common.{◌≡◌, ℕ, Bool, true, false, cond, not, List, [], ◌∷◌, ◌++◌, Option, None, inl, inr, filter, refl, sym, ap, subst, ◌∙◌}
use Rattle.std.specs.List.{AllByRecursion, filter_map, list_any}
use Rattle.std.proofs.lemmas.Bool.{cases_Bool, or_from, or_parts}
use Rattle.std.proofs.lemmas.List.{append-nil}
use Rattle.mm_schema.specs.Columns.{key_place}
use Rattle.mm_schema.specs.Instance.{AreInKeyOrder, Instance, TableEdits, changed_instance}
use Rattle.mm_schema.specs.Name.{same_name}
use Rattle.mm_schema.specs.Rows.{IsInKeyOrder, Pair, changed, column_cmp, goes, has_duplicate_keys, same_in_column, unsorted}
use Rattle.mm_schema.specs.Schema.{Schema}
use Rattle.mm_schema.specs.Sorting.{in_order}
use Rattle.mm_schema.specs.declared.table.Table.{Table}
use Rattle.mm_schema.proofs.ChangedRows.{IsInKeyOrder-changed}
use Rattle.mm_schema.proofs.InOrder.{IsPermutation-in_order}
use Rattle.mm_schema.proofs.Instances.{edits_of_one, name_of, pairs_of-other, pairs_of-own}
use Rattle.mm_schema.proofs.StrictOrder.{AllByRecursion-append}
use Rattle.mm_schema.proofs.Duplicates.{Row, has_duplicate_keys-IsPermutation, no_duplicates_in_order}
use Rattle.mm_query.specs.Edits.{also, is_cascaded, removals_of, with_cascades}
use Rattle.mm_query.specs.Machine.{after_edits}

-- ---- the result of a filter

none_in_filter : (q p : Row → Bool) (rows : List Row) → list_any q rows ≡ false → list_any q (filter p rows) ≡ false
none_in_filter q p [] none = refl
none_in_filter q p (r ∷ rs) none = by (p r) (none_in_filter q p rs (or_parts (q r) (list_any q rs) none).1)
  where
    by : (b : Bool) → list_any q (filter p rs) ≡ false → list_any q (cond b (r ∷ filter p rs) (filter p rs)) ≡ false
    by true later = or_from _ _ (or_parts (q r) (list_any q rs) none).0 later
    by false later = later

apart_in_filter : (key : ℕ) (p : Row → Bool) (rows : List Row) → has_duplicate_keys key rows ≡ false → has_duplicate_keys key (filter p rows) ≡ false
apart_in_filter key p [] none = refl
apart_in_filter key p (r ∷ rs) none =
    by (p r) (none_in_filter (same_in_column key r) p rs (or_parts (list_any (same_in_column key r) rs) (has_duplicate_keys key rs) none).0)
    (apart_in_filter key p rs (or_parts (list_any (same_in_column key r) rs) (has_duplicate_keys key rs) none).1)
  where
    by : (b : Bool) → list_any (same_in_column key r) (filter p rs) ≡ false → has_duplicate_keys key (filter p rs) ≡ false
        → has_duplicate_keys key (cond b (r ∷ filter p rs) (filter p rs)) ≡ false
    by true first later = or_from _ _ first later
    by false first later = later

-- ---- deletions

-- None of the old rows is replaced by a new one.
abbrev pub AreRemovals : List Pair → Type 0
AreRemovals pairs = AllByRecursion (λ (p : Pair). p.1 ≡ None) pairs

pub none_comes : (pairs : List Pair) → AreRemovals pairs → filter_map (λ (p : Pair). p.1) pairs ≡ []
none_comes [] none = refl
none_comes ((old, new) ∷ ps) none = ap (λ (n : Option Row). filter_map (λ (p : Pair). p.1) ((old, n) ∷ ps)) none.0 ∙ none_comes ps none.1

-- Deletions keep rows in the order of their keys.
pub IsInKeyOrder-removed : (key : ℕ) (pairs : List Pair) (rows : List Row) → AreRemovals pairs → IsInKeyOrder key rows
    → IsInKeyOrder key (changed key pairs rows)
IsInKeyOrder-removed key [] rows none order = order
IsInKeyOrder-removed key (p ∷ ps) rows none order =
    let pairs : List Pair = p ∷ ps in
    let left : List Row = filter (λ row. not (list_any (λ q. goes key row q.0) pairs)) rows in
    let just_left : unsorted key pairs rows ≡ left = ap (λ fresh. left ++ fresh) (none_comes pairs none) ∙ append-nil left in
    IsInKeyOrder-changed key pairs rows order
    (sym (has_duplicate_keys-IsPermutation key (unsorted key pairs rows) (in_order (column_cmp key) (unsorted key pairs rows))
    (IsPermutation-in_order (column_cmp key) (unsorted key pairs rows)))
    ∙ (ap (has_duplicate_keys key) just_left
    ∙ apart_in_filter key (λ row. not (list_any (λ q. goes key row q.0) pairs)) rows (no_duplicates_in_order key rows order)))

-- All tables stay in key order if rows of one are deleted.
AreInKeyOrder-removed : (name : List ℕ) (pairs : List Pair) → AreRemovals pairs → (ts : List Table) (rows : Instance) → AreInKeyOrder ts rows
    → AreInKeyOrder ts (changed_instance ts (edits_of_one name pairs) rows)
AreInKeyOrder-removed name pairs none [] [] order = tt
AreInKeyOrder-removed name pairs none (t ∷ ts) (r ∷ rs) order = (
  elim (cases_Bool (same_name name (name_of t))) [
    | inl own ↦
        subst (λ ps. IsInKeyOrder (key_place t.definition.columns) (changed (key_place t.definition.columns) ps r))
        (sym (pairs_of-own name pairs (name_of t) own))
        (IsInKeyOrder-removed (key_place t.definition.columns) pairs r none order.0)
    | inr other ↦
        subst (λ ps. IsInKeyOrder (key_place t.definition.columns) (changed (key_place t.definition.columns) ps r))
        (sym (pairs_of-other name pairs (name_of t) other)) order.0
  ],
  AreInKeyOrder-removed name pairs none ts rs order.1,
)
AreInKeyOrder-removed name pairs none [] (r ∷ rs) order = absurd order
AreInKeyOrder-removed name pairs none (t ∷ ts) [] order = absurd order

-- ---- of several tables

-- The edits of each table are deletions.
abbrev pub EachRemoves : List TableEdits → Type 0
EachRemoves es = AllByRecursion (λ (e : TableEdits). AreRemovals e.pairs) es

pub AreInKeyOrder-all_removed : (ts : List Table) (es : List TableEdits) (rows : Instance) → EachRemoves es → AreInKeyOrder ts rows
    → AreInKeyOrder ts (after_edits ts es rows)
AreInKeyOrder-all_removed ts [] rows none order = order
AreInKeyOrder-all_removed ts (e ∷ es) rows none order =
    AreInKeyOrder-all_removed ts es (changed_instance ts (e ∷ []) rows) none.1 (AreInKeyOrder-removed e.table e.pairs none.0 ts rows order)

pub removals_remove : (rows : List Row) → AreRemovals (removals_of rows)
removals_remove [] = tt
removals_remove (r ∷ rs) = (refl, removals_remove rs)

also_removes : (es : List TableEdits) (name : List ℕ) (pairs : List Pair) → EachRemoves es → AreRemovals pairs → EachRemoves (also es name pairs)
also_removes es name [] each none = each
also_removes es name (p ∷ ps) each none =
    AllByRecursion-append (λ (e : TableEdits). AreRemovals e.pairs) es (record { table = name; pairs = p ∷ ps } ∷ []) each (none, tt)

-- Deletions cascade only to deletions.
pub cascades_remove : (schema : Schema) (ts : List Table) (rows : Instance) (es : List TableEdits) → EachRemoves es
    → EachRemoves (with_cascades schema ts rows es)
cascades_remove schema [] rows es none = none
cascades_remove schema (t ∷ ts) [] es none = none
cascades_remove schema (t ∷ ts) (r ∷ rs) es none =
    let cascaded : List Row = filter (is_cascaded schema es t.definition.columns) r in
    cascades_remove schema ts rs (also es (name_of t) (removals_of cascaded))
    (also_removes es (name_of t) (removals_of cascaded) none (removals_remove cascaded))
