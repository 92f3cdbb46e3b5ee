-- The edits of all tables that a change affects: those of the table that it names, and the cascaded ones.
use Rattle.std.proofs.Common.{◌≡◌, ℕ, Bool, true, false, List, [], ◌∷◌, Option, Some, None, Bor, map, slice_get, refl, sym, ap, subst, ◌∙◌, arith}
use Rattle.std.specs.List.{filter}
use Rattle.std.specs.Option.{option_map_or}
use Rattle.std.proofs.lemmas.List.Elements.{All-cons, All-nil}
use Rattle.mm_partition.specs.Places.{slot_at}
use Rattle.mm_store.specs.Edits.{pairs_of}
use Rattle.mm_txn.specs.RowEdits.{BringNone}
use Rattle.mm_indexed.specs.Kept.{StoredRows}
use Rattle.mm_link.specs.Targets.{pair_of}
use Rattle.mm_row_order.specs.Refs.{Slots}
use Rattle.mm_tables.specs.Edits.{came_by}
use Rattle.mm_tables.specs.declared.edit.Edit.{Edit}
use Rattle.mm_tables.specs.declared.edit.Edit.TheVariants.{Move, Stage}
use Rattle.mm_tables.specs.declared.edit.Edit.TheVariants as edit
use Rattle.mm_schema.specs.Instance.{TableEdits as NamedEdits}
use Rattle.mm_schema.specs.Name.{same_name}
use Rattle.mm_schema.specs.Schema.{Schema}
use Rattle.mm_schema.specs.declared.table.Table.{Table}
use Rattle.mm_schema.proofs.Instances.{name_of}
use Rattle.mm_schema.proofs.NameLemmas.{same_bytes}
use Rattle.mm_schema.proofs.Places.{place_within, table_at_place}
use Rattle.mm_query.specs.Binding.{Binds, tests_for}
use Rattle.mm_query.specs.Edits.{changed_table, edits as all_edits, meets, own_edits, own_pairs, with_cascades}
use Rattle.mm_query.specs.State.{State, rows_in}
use Rattle.mm_query.specs.declared.atom.Atom.{Atom}
use Rattle.mm_query.specs.declared.bind.BoundChange.TheVariants as bound
use Rattle.mm_query.specs.declared.bound_query.FieldPlace.{FieldPlace}
use Rattle.mm_query.specs.declared.command.Mutation.{Mutation}
use Rattle.mm_query.specs.declared.command.Mutation.TheVariants.{Insert, Update, Delete}
use Rattle.mm_laws.proofs.Removals.{AreRemovals, removals_remove}
use Rattle.mm_store.specs.Tables.{Tables}
use Rattle.mm_plan.specs.Kept.{AreOf, instance_of}
use Rattle.mm_txn.specs.Bound.{bound_of}
use Rattle.mm_txn.specs.Kept.{state_of}
use Rattle.mm_txn.specs.declared.bound.ChangeToRun.{ChangeToRun}
use Rattle.mm_txn.specs.declared.bound.ChangeToRun.TheVariants as run
use Rattle.mm_txn.specs.PlacedEdits.{AreEdits, AreEditsOf, AreOwnEditsOf, FitsAt, PlacedEdits, named, pairs_at}
use Rattle.mm_txn.proofs.DatabaseSteps.{rows_there, some_there}
use Rattle.mm_txn.proofs.ReferenceRows.{found_passes}

-- ---- a change that may cascade

abbrev pub is_delete : Mutation → Bool
is_delete (Insert table tuples) = false
is_delete (Update table assignments tests) = false
is_delete (Delete table tests) = true

-- A bound DELETE is the bound form of a DELETE, ..
pub delete_bound : (schema : Schema) (mutation : Mutation) (place : ℕ) (tests : List (Atom FieldPlace)) → Binds schema mutation (bound.Delete place tests)
    → is_delete mutation ≡ true
delete_bound schema (Insert table tuples) place tests binds = absurd binds
delete_bound schema (Update table assignments written) place tests binds = absurd binds
delete_bound schema (Delete table written) place tests binds = refl

-- .. and of nothing else.
pub other_bound : (schema : Schema) (mutation : Mutation) (change : ChangeToRun) → Binds schema mutation (bound_of change)
    → ((place : ℕ) (tests : Bor (List (Atom FieldPlace))) → change ≡ run.Delete place tests → ⊥) → is_delete mutation ≡ false
other_bound schema (Insert table tuples) change binds other = refl
other_bound schema (Update table assignments written) change binds other = refl
other_bound schema (Delete table written) (run.Insert place tuples) binds other = absurd binds
other_bound schema (Delete table written) (run.Update place assignments tests) binds other = absurd binds
other_bound schema (Delete table written) (run.Delete place tests) binds other = absurd (other place tests refl)

-- A DELETE inserts no rows, ..
delete_removes : (mutation : Mutation) (state : State) → is_delete mutation ≡ true → AreRemovals (own_pairs mutation state)
delete_removes (Insert table tuples) state is = cc
delete_removes (Update table assignments tests) state is = cc
delete_removes (Delete table tests) state is = removals_remove (filter (meets (tests_for table state.schema tests)) (rows_in state table))

-- .. and its edits are those of its table and those of the cascaded rows.
delete_edits : (mutation : Mutation) (state : State) → is_delete mutation ≡ true
    → all_edits mutation state ≡ with_cascades state.schema state.schema.tables state.rows (own_edits mutation state ∷ [])
delete_edits (Insert table tuples) state is = cc
delete_edits (Update table assignments tests) state is = cc
delete_edits (Delete table tests) state is = refl

-- The edits of any other change are those of its table alone.
other_edits : (mutation : Mutation) (state : State) → is_delete mutation ≡ false → all_edits mutation state ≡ own_edits mutation state ∷ []
other_edits (Insert table tuples) state is = refl
other_edits (Update table assignments tests) state is = refl
other_edits (Delete table tests) state is = cc

-- Edits bring no rows if their pairs have no new rows.
bring_none : (now : Slots) (es : List Edit) → AreRemovals (pairs_of now es) → BringNone es
bring_none now [] none = All-nil (λ (e : Edit). came_by e ≡ None)
bring_none now (e ∷ es) none = All-cons (λ (f : Edit). came_by f ≡ None) e es (one e none.0) (bring_none now es none.1)
  where
    one : (f : Edit) → (pair_of now f).1 ≡ None → came_by f ≡ None
    one (Stage at) is = refl
    one (edit.Insert at) is = cc
    one (edit.Update at other) is = cc
    one (Move at other) is = cc
    one (edit.Delete at) is = refl

-- ---- the edits of one table

module _ (schema : Schema) (store : Tables) (are : AreOf schema.tables store.tables) (mutation : Mutation) (place : ℕ) (edits : List Edit)
    (own : AreOwnEditsOf mutation schema store.tables place edits) where
  abbrev own_placed : PlacedEdits
  own_placed = (place, edits)

  abbrev state : State
  state = state_of schema store.tables

  stored_there : (stored : StoredRows) × (slice_get store.tables place ≡ Some stored)
  stored_there = some_there store.tables place (rows_there schema store.tables are (changed_table mutation) place own.placed)

  -- The edits fit their relation, ..
  pub own_fit : FitsAt store own_placed
  own_fit = (stored_there.0, stored_there.1, own.fit stored_there.0 stored_there.1)

  -- .. bring no rows if rows may be cascaded, ..
  pub own_removes : is_delete mutation ≡ true → BringNone edits
  own_removes is =
      bring_none (slot_at stored_there.0.places) edits
      (subst AreRemovals (sym (own.pairs stored_there.0 stored_there.1)) (delete_removes mutation state is))

  own_named : named schema store.tables own_placed ≡ own_edits mutation state
  own_named =
      let name = changed_table mutation in
      let table = some_there schema.tables place (place_within name schema place own.placed) in
      let mine : same_name name (name_of table.0) ≡ true =
      found_passes (λ t. same_name name (name_of t)) schema.tables table.0 (table_at_place name schema place own.placed ∙ table.1) in
      let called : option_map_or name_of (slice_get schema.tables place) [] ≡ name =
      ap (λ (t : Option Table). option_map_or name_of t []) table.1 ∙ sym (same_bytes name (name_of table.0) mine) in
      let pairs : pairs_at store.tables own_placed ≡ own_pairs mutation state =
      ap (λ (s : Option StoredRows). option_map_or (λ stored. pairs_of (slot_at stored.places) edits) s []) stored_there.1
      ∙ own.pairs stored_there.0 stored_there.1 in
      λ i. record { table = called i; pairs = pairs i }

  alone : AreEdits store (own_placed ∷ [])
  alone = record {
    fit = All-cons (FitsAt store) own_placed [] own_fit (All-nil (FitsAt store));
    ascend = λ i j d below within. absurd (omega arith);
    removals = λ several. absurd (omega arith);
  }

  -- .. and are all edits of a change that cascades to none.
  pub edits_alone : is_delete mutation ≡ false → AreEditsOf mutation schema store own_placed []
  edits_alone is = record {
    placed = own.placed;
    are = alone;
    named = (λ i. own_named i ∷ []) ∙ sym (other_edits mutation state is);
  }

  -- With the deletions of cascaded rows they are the edits of a DELETE.
  pub edits_with_others : is_delete mutation ≡ true → (cascaded : List PlacedEdits) → AreEdits store (own_placed ∷ cascaded)
      → map (named schema store.tables) (own_placed ∷ cascaded)
      ≡ with_cascades schema schema.tables (instance_of store.tables) (named schema store.tables own_placed ∷ [])
      → AreEditsOf mutation schema store own_placed cascaded
  edits_with_others is cascaded all cascades = record {
    placed = own.placed;
    are = all;
    named = cascades
        ∙ (ap (λ (e : NamedEdits). with_cascades schema schema.tables (instance_of store.tables) (e ∷ [])) own_named ∙ sym (delete_edits mutation state is));
  }
