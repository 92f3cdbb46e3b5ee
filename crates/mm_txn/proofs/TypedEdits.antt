-- The new rows of a change have the types of the columns of its table.
use Rattle.std.proofs.Common.{◌≡◌, ℕ, suc, not, List, [], ◌∷◌, Some, None, filter, get_or, map, slice_get, refl, sym, ap, subst, ◌∙◌}
use Rattle.std.specs.List.{All, list_any}
use Rattle.std.proofs.lemmas.List.Elements.{All-map, All-nil, All-weaker, Contains-get_or}
use Rattle.std.proofs.lemmas.List.Sorted.{All-permutation, IsPermutation-sym}
use Rattle.mm_order.proofs.Pairs.{All-append_right}
use Rattle.mm_partition.specs.Places.{slot_at, row_in}
use Rattle.mm_partition.specs.Types.{HasTypes}
use Rattle.mm_indexed.specs.Kept.{IsKept, StoredRows}
use Rattle.mm_row_order.specs.Refs.{row_at}
use Rattle.mm_indexed.specs.RowLists.{rows_of}
use Rattle.mm_schema.specs.Refused.{first_refusal}
use Rattle.mm_schema.specs.Rows.{Pair, changed, column_cmp, goes, unsorted}
use Rattle.mm_schema.specs.Schema.{HasDistinctNames, Schema, columns_named, key_named}
use Rattle.mm_schema.specs.declared.column.Column.{Column}
use Rattle.mm_schema.specs.declared.table.Table.{Table}
use Rattle.mm_schema.proofs.Duplicates.{Row}
use Rattle.mm_schema.proofs.InOrder.{IsPermutation-in_order}
use Rattle.mm_query.specs.Atoms.{updated_row}
use Rattle.mm_query.specs.Binding.{Binds, binding_conditions, has_other_length, has_type_mismatch}
use Rattle.mm_query.specs.Edits.{changed_table, own_pairs}
use Rattle.mm_query.specs.Machine.{after_change}
use Rattle.mm_query.specs.declared.atom.Assignment.{Assignment}
use Rattle.mm_query.specs.declared.atom.Atom.{Atom}
use Rattle.mm_query.specs.declared.bind.BoundChange.TheVariants as bound
use Rattle.mm_query.specs.declared.bound_query.FieldPlace.{FieldPlace}
use Rattle.mm_query.specs.declared.command.Mutation.{Mutation}
use Rattle.mm_query.specs.declared.command.Mutation.TheVariants as written
use Rattle.mm_query.proofs.Due.{passes_at_place}
use Rattle.mm_query.proofs.PlacedQueries.{none_hold}
use Rattle.mm_laws.specs.Typing.{AreTyped, HasTypes as OfColumns}
use Rattle.mm_laws.proofs.NamedRows.{rows_changed}
use Rattle.mm_laws.proofs.TypedChanges.{typed_by_change}
use Rattle.mm_laws.proofs.TypedRows.{coming, tuples_typed}
use Rattle.mm_laws.proofs.TypedTables.{named_typed}
use Rattle.mm_plan.specs.Kept.{AreOf, instance_of}
use Rattle.mm_txn.specs.Kept.{state_of}
use Rattle.mm_txn.specs.RowEdits.{updates_of}
use Rattle.mm_txn.proofs.EditsMade.{updated_come}
use Rattle.mm_txn.proofs.RowsBeside.{are_beside, types_of}

-- ---- rows by columns, and by their types

-- A row that has the types of columns also has them without the columns' names and roles, ..
pub by_types : (columns : List Column) (row : Row) → OfColumns columns row → HasTypes (types_of columns) row
by_types [] [] typed = refl
by_types (c ∷ cs) (v ∷ vs) typed = λ i. typed.0 i ∷ by_types cs vs typed.1 i
by_types [] (v ∷ vs) typed = absurd typed
by_types (c ∷ cs) [] typed = absurd typed

-- .. and conversely.
by_columns : (columns : List Column) (row : Row) → HasTypes (types_of columns) row → OfColumns columns row
by_columns [] [] typed = tt
by_columns (c ∷ cs) (v ∷ vs) typed = (cc, by_columns cs vs cc)
by_columns [] (v ∷ vs) typed = cc
by_columns (c ∷ cs) [] typed = cc

-- ---- the existing rows

-- All rows of a relation have the types of its columns.
rows_typed : (stored : StoredRows) → IsKept stored.places.types stored.key (slot_at stored.places) stored.refs stored.indexes
    → All (HasTypes stored.places.types) (rows_of stored)
rows_typed stored kept =
    All-map (HasTypes stored.places.types) (row_at (slot_at stored.places)) stored.refs
    (λ k d within.
    let live = (kept.held (get_or stored.refs k d)).0 (Contains-get_or stored.refs k d within) in
    subst (HasTypes stored.places.types) (sym (ap row_in live.1)) (kept.typed (get_or stored.refs k d) live.0 live.1))

-- So all rows of the tables of a catalog have the types of their columns.
instance_typed : (tables : List Table) (rs : List StoredRows) → AreOf tables rs
    → ((place : ℕ) (stored : StoredRows) → slice_get rs place ≡ Some stored
    → IsKept stored.places.types stored.key (slot_at stored.places) stored.refs stored.indexes)
    → AreTyped tables (instance_of rs)
instance_typed [] [] are kept = tt
instance_typed (t ∷ ts) (r ∷ rs) are kept = (
  All-weaker (HasTypes r.places.types) (OfColumns t.definition.columns)
      (λ row typed. by_columns t.definition.columns row (typed ∙ are.0.types)) (rows_of r) (rows_typed r (kept 0 r refl)),
  instance_typed ts rs are.1 (λ place stored there. kept (suc place) stored there),
)
instance_typed [] (r ∷ rs) are kept = absurd are
instance_typed (t ∷ ts) [] are kept = absurd are

-- ---- the new rows

-- A property of all rows after a change holds of the new rows.
held_by_coming : (P : Row → Type 0) (key : ℕ) (pairs : List Pair) (rows : List Row) → All P (changed key pairs rows) → All P (coming pairs)
held_by_coming P key [] rows all = All-nil P
held_by_coming P key (p ∷ ps) rows all =
    let mixed = unsorted key (p ∷ ps) rows in
    All-append_right P (filter (λ row. not (list_any (λ q. goes key row q.0) (p ∷ ps))) rows) (coming (p ∷ ps))
    (All-permutation P (changed key (p ∷ ps) rows) mixed
    (IsPermutation-sym mixed (changed key (p ∷ ps) rows) (IsPermutation-in_order (column_cmp key) mixed)) all)

-- The tuples of an INSERT have the types of the columns of its table, ..
pub inserted_typed : (schema : Schema) (mutation : Mutation) (place : ℕ) (rows : List Row) → Binds schema mutation (bound.Insert place rows)
    → first_refusal (binding_conditions mutation schema) ≡ None → (table : Table) → slice_get schema.tables place ≡ Some table
    → All (HasTypes (types_of table.definition.columns)) rows
inserted_typed schema (written.Insert name tuples) place rows binds none table there =
    let columns = table.definition.columns in
    let hold = none_hold (binding_conditions (written.Insert name tuples) schema) none in
    let same = sym (passes_at_place name schema place table binds.0 there (λ t. list_any (has_type_mismatch t.definition.columns) tuples)) ∙ hold.1.0 in
    let long = sym (passes_at_place name schema place table binds.0 there (λ t. list_any (has_other_length t.definition.columns) tuples)) ∙ hold.1.1.0 in
    subst (All (HasTypes (types_of columns))) (sym binds.1)
    (All-weaker (OfColumns columns) (HasTypes (types_of columns)) (by_types columns) tuples (tuples_typed columns tuples same long))
inserted_typed schema (written.Update name assignments tests) place rows binds none table there = absurd binds
inserted_typed schema (written.Delete name tests) place rows binds none table there = absurd binds

module _ (schema : Schema) (rs : List StoredRows) (are : AreOf schema.tables rs)
    (kept : (place : ℕ) (stored : StoredRows) → slice_get rs place ≡ Some stored
    → IsKept stored.places.types stored.key (slot_at stored.places) stored.refs stored.indexes)
    (distinct : HasDistinctNames schema) where
  -- .. and so have the rows that an UPDATE computes from rows that have them.
  updated_typed : (mutation : Mutation) (place : ℕ) (assignments : List (Assignment ℕ)) (tests : List (Atom FieldPlace))
      → Binds schema mutation (bound.Update place assignments tests) → first_refusal (binding_conditions mutation schema) ≡ None
      → All (OfColumns (columns_named (changed_table mutation) schema)) (coming (own_pairs mutation (state_of schema rs)))
  updated_typed (written.Insert name tuples) place assignments tests binds none = absurd binds
  updated_typed (written.Update name named_assignments named_tests) place assignments tests binds none =
      let mutation = written.Update name named_assignments named_tests in
      let pairs = own_pairs mutation (state_of schema rs) in
      let hold = none_hold (binding_conditions mutation schema) none in
      held_by_coming (OfColumns (columns_named name schema)) (key_named name schema) pairs _
      (subst (All (OfColumns (columns_named name schema)))
      (rows_changed name pairs schema.tables (instance_of rs) (are_beside schema.tables rs are) hold.0)
      (named_typed name schema.tables (after_change mutation (state_of schema rs)).rows
      (typed_by_change (state_of schema rs) (instance_typed schema.tables rs are kept) mutation distinct none)))
  updated_typed (written.Delete name named_tests) place assignments tests binds none = absurd binds

  -- So have the rows that an UPDATE computes from the rows that satisfy its tests.
  pub rows_updated_typed : (mutation : Mutation) (place : ℕ) (assignments : List (Assignment ℕ)) (tests : List (Atom FieldPlace))
      → Binds schema mutation (bound.Update place assignments tests) → first_refusal (binding_conditions mutation schema) ≡ None
      → (rows : List Row) → own_pairs mutation (state_of schema rs) ≡ updates_of assignments rows
      → All (HasTypes (types_of (columns_named (changed_table mutation) schema))) (map (updated_row assignments) rows)
  rows_updated_typed mutation place assignments tests binds none rows owns =
      let columns = columns_named (changed_table mutation) schema in
      All-weaker (OfColumns columns) (HasTypes (types_of columns)) (by_types columns) (map (updated_row assignments) rows)
      (subst (All (OfColumns columns)) (ap coming owns ∙ updated_come assignments rows) (updated_typed mutation place assignments tests binds none))
