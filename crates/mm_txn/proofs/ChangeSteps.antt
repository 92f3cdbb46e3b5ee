-- A change of rows as a step of the machine, by the edits of its table.
use Rattle.std.proofs.Common.{◌≡◌, ℕ, ◌<◌, ◌==◌, ◌&&◌, ◌||◌, Bool, cond, Result, Err, List, [], ◌∷◌, ◌++◌, Option, Some, None, filter, find}
use Rattle.std.proofs.Common.{map, inl, inr, length, slice_get, refl, sym, ap, subst, ◌∙◌, ⊎_elim, arith}
use Rattle.std.specs.List.{All, AllByRecursion, list_any}
use Rattle.std.specs.Option.{option_map_or, unwrap_or}
use Rattle.std.proofs.lemmas.Bool.{eq-eqb}
use Rattle.std.proofs.lemmas.List.{length-map}
use Rattle.std.proofs.lemmas.List.Elements.{All-head, recursion_from_All}
use Rattle.mm_partition.specs.Places.{slot_at}
use Rattle.mm_partition.specs.Types.{HasTypes}
use Rattle.mm_link.specs.Targets.{pair_of}
use Rattle.mm_indexed.specs.Kept.{StoredRows}
use Rattle.mm_indexed.specs.RowLists.{rows_of}
use Rattle.mm_tables.specs.declared.edit.Edit.{Edit}
use Rattle.mm_schema.specs.Instance.{Instance, TableEdits as NamedEdits}
use Rattle.mm_schema.specs.References.{RefersBack, all_references, lacks_target_row, lose_targets, references_of}
use Rattle.mm_schema.specs.Refused.{AnswersDue, first_refusal}
use Rattle.mm_schema.specs.Rows.{Pair, table_rows_conditions}
use Rattle.mm_schema.specs.Schema.{HasDistinctNames, Schema, columns_named, key_named, table_place}
use Rattle.mm_schema.specs.declared.column.Column.{Column}
use Rattle.mm_schema.specs.declared.reference.Reference.{Reference}
use Rattle.mm_schema.specs.declared.table.Table.{Table}
use Rattle.mm_schema.proofs.Dues.{due_behind, due_in_front}
use Rattle.mm_schema.proofs.Instances.{name_of}
use Rattle.mm_schema.proofs.Places.{place_from_some, table_at_place}
use Rattle.mm_schema.proofs.Duplicates.{Row}
use Rattle.mm_store.specs.Edits.{AreFit, pairs_of, rows_after}
use Rattle.mm_store.specs.Tables.{IsAt, Tables, finds_orphan, has_orphans, key_at, rows_at}
use Rattle.mm_standing.specs.Queries.{RowsByPlace, StandingQuery, change_conditions as list_conditions}
use Rattle.mm_value.specs.declared.col_type.ColType.{ColType}
use Rattle.mm_value.specs.declared.refusal.Refusal.{Refusal}
use Rattle.mm_query.specs.Atoms.{range_conditions}
use Rattle.mm_query.specs.Binding.{AssignmentsWithin, Binds, binding_conditions}
use Rattle.mm_query.specs.Edits.{also, changed_table, edits, is_cascaded, new_values, own_edits, own_pairs, removals_of, value_conditions, with_cascades}
use Rattle.mm_query.specs.Machine.{after_change, after_edits, change_conditions, is_referred_to, some_is_referred, some_lacks_target}
use Rattle.mm_query.specs.Standing.{growth_conditions}
use Rattle.mm_query.specs.State.{State, rows_in}
use Rattle.mm_query.specs.declared.atom.Assignment.{Assignment}
use Rattle.mm_query.specs.declared.atom.Atom.{Atom}
use Rattle.mm_query.specs.declared.bind.BoundChange.TheVariants as bound
use Rattle.mm_query.specs.declared.bound_query.BoundQuery.{BoundQuery}
use Rattle.mm_query.specs.declared.bound_query.FieldPlace.{FieldPlace}
use Rattle.mm_query.specs.declared.command.Mutation.{Mutation}
use Rattle.mm_query.specs.declared.command.Mutation.TheVariants as written
use Rattle.mm_query.proofs.Binds.{delete_pairs, update_pairs}
use Rattle.mm_query.proofs.Due.{due_behind_values, due_in_front_of_rows, not_lacking}
use Rattle.mm_plan.specs.Finding.{meets}
use Rattle.mm_plan.specs.Kept.{AreOf, instance_of}
use Rattle.mm_txn.specs.Kept.{state_of, watched_state}
use Rattle.mm_txn.specs.RowEdits.{updates_of}
use Rattle.mm_txn.specs.PlacedEdits.{AreEditsOf, AreOwnEditsOf, FitsAt, HaveRows, PlacedEdits, edits_at, edits_conditions, leaves_orphan, leaves_orphans}
use Rattle.mm_txn.specs.PlacedEdits.{named, pairs_at, rows_edited}
use Rattle.mm_txn.specs.Listed.{IsPlaced, queries_of, rows_by_place}
use Rattle.mm_txn.proofs.BackLinks.{IsOlder, first_of, older_at}
use Rattle.mm_txn.proofs.DatabaseSteps.{key_is, rows_of_name, rows_there}
use Rattle.mm_txn.proofs.ListedRows.{growth_placed, have_formed, rows_kept}
use Rattle.mm_txn.proofs.Placed.{rows_by_name}
use Rattle.mm_txn.proofs.SavedRows.{edits_watched, values_watched}
use Rattle.mm_txn.proofs.ReferenceRows.{AreToOthers, IsToKept, IsToOther, all_there, key_by_name, lacks_are, loses_are, others_at, placed_itself}
use Rattle.mm_txn.proofs.ReferenceRows.{rows_by_name as rows_at_name, some_place}
use Rattle.mm_txn.proofs.RowsBeside.{AreOf-formed, IsBeside, as_many_rows, beside, types_of}
use Rattle.mm_txn.proofs.RowsMade.{InTurn, after_edited, in_turn, instance_is, many_after, none_at, none_later, all_after}
use Rattle.mm_txn.proofs.TypedEdits.{inserted_typed}

-- ---- the bound change

-- UPDATE computes the values of its new rows.
pub update_values : (schema : Schema) (mutation : Mutation) (place : ℕ) (assignments : List (Assignment ℕ)) (tests : List (Atom FieldPlace)) (state : State)
    → Binds schema mutation (bound.Update place assignments tests) → value_conditions mutation state ≡ range_conditions (new_values (own_pairs mutation state))
update_values schema (written.Insert name tuples) place assignments tests state binds = absurd binds
update_values schema (written.Update name written_assignments written_tests) place assignments tests state binds = refl
update_values schema (written.Delete name written_tests) place assignments tests state binds = absurd binds

-- All columns in the assignments of an UPDATE exist.
pub update_within : (schema : Schema) (mutation : Mutation) (place : ℕ) (assignments : List (Assignment ℕ)) (tests : List (Atom FieldPlace))
    → Binds schema mutation (bound.Update place assignments tests) → AssignmentsWithin (length (columns_named (changed_table mutation) schema)) assignments
update_within schema (written.Insert name tuples) place assignments tests binds = absurd binds
update_within schema (written.Update name written_assignments written_tests) place assignments tests binds = binds.assignments_within
update_within schema (written.Delete name written_tests) place assignments tests binds = absurd binds

-- ---- the edits of the bound change

-- There is one relation at a place.
pub one_there : (rs : List StoredRows) (place : ℕ) (a b : StoredRows) → slice_get rs place ≡ Some a → slice_get rs place ≡ Some b → a ≡ b
one_there rs place a b h k = cc

module _ (schema : Schema) (rs : List StoredRows) (are : AreOf schema.tables rs) (mutation : Mutation) (place : ℕ) where
  -- The tuples of an INSERT have the types of the relation at its table's place.
  pub insert_typed : (rows : List Row) → Binds schema mutation (bound.Insert place rows) → first_refusal (binding_conditions mutation schema) ≡ None
      → (stored : StoredRows) → slice_get rs place ≡ Some stored → All (HasTypes stored.places.types) rows
  insert_typed rows binds none stored there =
      let at = beside schema.tables rs place stored are there in
      subst (λ types. All (HasTypes types) rows) (sym at.is_of.types) (inserted_typed schema mutation place rows binds none at.table at.there)

  module _ (placed : table_place (changed_table mutation) schema ≡ Some place) where
    pub place_within_rows : place < length rs
    place_within_rows = rows_there schema rs are (changed_table mutation) place placed

    module _ (stored : StoredRows) (there : slice_get rs place ≡ Some stored) where
      -- The relation at the table's place has the types of the table's columns.
      pub types_are : types_of (columns_named (changed_table mutation) schema) ≡ stored.places.types
      types_are =
          let at = beside schema.tables rs place stored are there in
          ap (λ t. types_of (option_map_or (λ (u : Table). u.definition.columns) t []))
          (table_at_place (changed_table mutation) schema place placed ∙ at.there)
          ∙ sym at.is_of.types

      pub width_is : length (columns_named (changed_table mutation) schema) ≡ length stored.places.types
      width_is =
          sym (length-map (columns_named (changed_table mutation) schema) (λ (c : Column). c.col_type))
          ∙ ap (λ (types : List ColType). length types) types_are

      -- The pairs of an UPDATE and of a DELETE are those of its rows.
      pub update_owns : (assignments : List (Assignment ℕ)) (tests : List (Atom FieldPlace)) → Binds schema mutation (bound.Update place assignments tests)
          → own_pairs mutation (state_of schema rs) ≡ updates_of assignments (filter (meets tests) (rows_of stored))
      update_owns assignments tests binds =
          update_pairs schema mutation place assignments tests (state_of schema rs) refl binds
          ∙ ap (λ rows. updates_of assignments (filter (meets tests) rows)) (rows_of_name schema rs are (changed_table mutation) place placed stored there)

      pub delete_owns : (tests : List (Atom FieldPlace)) → Binds schema mutation (bound.Delete place tests)
          → own_pairs mutation (state_of schema rs) ≡ removals_of (filter (meets tests) (rows_of stored))
      delete_owns tests binds =
          delete_pairs schema mutation place tests (state_of schema rs) refl binds
          ∙ ap (λ rows. removals_of (filter (meets tests) rows)) (rows_of_name schema rs are (changed_table mutation) place placed stored there)

      -- An UPDATE is refused before its rows are read exactly if a new value is past the range.
      pub update_due : (assignments : List (Assignment ℕ)) (tests : List (Atom FieldPlace)) → Binds schema mutation (bound.Update place assignments tests)
          → first_refusal (binding_conditions mutation schema) ≡ None
          → first_refusal (range_conditions (new_values (updates_of assignments (filter (meets tests) (rows_of stored)))))
          ≡ first_refusal (binding_conditions mutation schema ++ value_conditions mutation (state_of schema rs))
      update_due assignments tests binds none =
          sym (due_behind (binding_conditions mutation schema) (value_conditions mutation (state_of schema rs)) none
          ∙ ap first_refusal (update_values schema mutation place assignments tests (state_of schema rs) binds)
          ∙ ap (λ pairs. first_refusal (range_conditions (new_values pairs))) (update_owns assignments tests binds))

-- Edits of the table that a change names are those of the change if their pairs are, over tables with the same rows.
pub stored_edits : (schema : Schema) (rs new : List StoredRows) (mutation : Mutation) (place : ℕ) → table_place (changed_table mutation) schema ≡ Some place
    → instance_of new ≡ instance_of rs → (edits : List Edit) (pairs : List Pair) → own_pairs mutation (state_of schema rs) ≡ pairs
    → ((stored : StoredRows) → slice_get new place ≡ Some stored → AreFit stored edits)
    → ((stored : StoredRows) → slice_get new place ≡ Some stored → pairs_of (slot_at stored.places) edits ≡ pairs)
    → AreOwnEditsOf mutation schema new place edits
stored_edits schema rs new mutation place placed same edits pairs owns fit are_pairs = record {
  placed = placed;
  fit = fit;
  pairs = λ stored there.
      are_pairs stored there
      ∙ (sym owns
      ∙ ap (λ (rows : Instance). own_pairs mutation (record { schema = schema; rows = rows; queries = []; saved = None })) (sym same));
}

-- ---- the edits of all tables

-- The first edits remain the first.
first_still : (schema : Schema) (e : NamedEdits) (ts : List Table) (rows : Instance) (es : List NamedEdits)
    → (others : List NamedEdits) × (with_cascades schema ts rows (e ∷ es) ≡ e ∷ others)
first_still schema e [] rows es = (es, refl)
first_still schema e (t ∷ ts) [] es = (es, refl)
first_still schema e (t ∷ ts) (r ∷ rs) es =
    by (removals_of (filter (is_cascaded schema (e ∷ es) t.definition.columns) r)) (first_still schema e ts rs)
  where
    by : (pairs : List Pair) → ((fs : List NamedEdits) → (others : List NamedEdits) × (with_cascades schema ts rs (e ∷ fs) ≡ e ∷ others))
        → (others : List NamedEdits) × (with_cascades schema ts rs (also (e ∷ es) (name_of t) pairs) ≡ e ∷ others)
    by [] later = later es
    by (p ∷ ps) later = later (es ++ record { table = name_of t; pairs = p ∷ ps } ∷ [])

-- So the edits of the table that a change names are the first.
own_in_front : (mutation : Mutation) (state : State) → (others : List NamedEdits) × (edits mutation state ≡ own_edits mutation state ∷ others)
own_in_front (written.Insert table tuples) state = ([], refl)
own_in_front (written.Update table assignments tests) state = ([], refl)
own_in_front (written.Delete table tests) state = first_still state.schema (own_edits (written.Delete table tests) state) state.schema.tables state.rows []

-- ---- the step

-- A refusal that is due by the names of a change is due of the change.
pub bound_due : (mutation : Mutation) (state : State) (refusal : Refusal)
    → AnswersDue {T = Unit {0}} (first_refusal (binding_conditions mutation state.schema)) (Err refusal)
    → AnswersDue {T = Unit {0}} (first_refusal (change_conditions mutation state)) (Err refusal)
bound_due mutation state refusal due =
    ⊎_elim (λ h. inl (due_in_front (binding_conditions mutation state.schema) _ refusal h)) (λ m. inr m) due

-- A refusal that is due before the rows of a change are read is due of the change, whatever the standing queries.
pub early_due : (mutation : Mutation) (schema : Schema) (rs : List StoredRows) (queries : List BoundQuery) (refusal : Refusal)
    → AnswersDue {T = Unit {0}} (first_refusal (binding_conditions mutation schema ++ value_conditions mutation (state_of schema rs))) (Err refusal)
    → AnswersDue {T = Unit {0}} (first_refusal (change_conditions mutation (watched_state schema rs queries))) (Err refusal)
early_due mutation schema rs queries refusal due =
    ⊎_elim (λ h. inl (due_in_front_of_rows mutation (watched_state schema rs queries) refusal
    (ap (λ values. first_refusal (binding_conditions mutation schema ++ values)) (sym (values_watched schema rs queries mutation)) ∙ h))) (λ m. inr m) due

module _ (schema : Schema) (store : Tables) (are : AreOf schema.tables store.tables) (distinct : HasDistinctNames schema) (mutation : Mutation)
    (own : PlacedEdits) (cascaded : List PlacedEdits) (are_edits : AreEditsOf mutation schema store own cascaded) where
  abbrev all_edits : List PlacedEdits
  all_edits = own ∷ cascaded

  own_there : FitsAt store own
  own_there = All-head (FitsAt store) own cascaded are_edits.are.fit

  turn : InTurn (length schema.tables) all_edits
  turn = subst (λ (n : ℕ). InTurn n all_edits) (as_many_rows schema.tables store.tables are) (in_turn store all_edits are_edits.are)

  -- The table that a change names has as many edits as pairs.
  pub edits_counted : length own.1 ≡ length (own_pairs mutation (state_of schema store.tables))
  edits_counted =
      let stored = own_there.0 in
      let first = own_in_front mutation (state_of schema store.tables) in
      let front : named schema store.tables own ∷ map (named schema store.tables) cascaded ≡ own_edits mutation (state_of schema store.tables) ∷ first.0 =
      are_edits.named ∙ first.1 in
      let same : named schema store.tables own ≡ own_edits mutation (state_of schema store.tables) = cc in
      sym (length-map own.1 (pair_of (slot_at stored.places)))
      ∙ (sym (ap (λ (s : Option StoredRows). length (option_map_or (λ (k : StoredRows). pairs_of (slot_at k.places) own.1) s [])) own_there.1)
      ∙ ap (λ (e : NamedEdits). length e.pairs) same)

  module _ (queries : List BoundQuery) where
    abbrev state : State
    state = watched_state schema store.tables queries

    edits_are : map (named schema store.tables) all_edits ≡ edits mutation state
    edits_are = are_edits.named ∙ edits_watched schema store.tables queries mutation

    after_is : all_after schema distinct store are all_edits turn ≡ (after_change mutation state).rows
    after_is = ap (λ (es : List NamedEdits). after_edits schema.tables es (instance_of store.tables)) edits_are

    -- The rows after the edits are those after the change.
    pub edited_after : rows_edited store all_edits ≡ rows_by_place (after_change mutation state).rows
    edited_after = sym (after_edited schema distinct store are all_edits turn) ∙ ap rows_by_place after_is

    many_changed : length (after_change mutation state).rows ≡ length store.tables
    many_changed = sym (ap (λ (rows : Instance). length rows) after_is) ∙ many_after schema distinct store are all_edits turn

    module _ (new : Tables) where
      pub change_done : HaveRows (rows_edited store all_edits) store new
          → (watched_state schema new.tables queries ≡ after_change mutation state) × AreOf schema.tables new.tables
      change_done have = (
        ap (λ (rows : Instance). record { schema = schema; rows = rows; queries = queries; saved = None })
            (instance_is (rows_edited store all_edits) store new have (after_change mutation state).rows many_changed (sym edited_after)),
        AreOf-formed schema.tables store.tables new.tables (have_formed (rows_edited store all_edits) store new have) are,
      )

  -- If all relations keep their rows, so does the state.
  pub change_refused : (new : Tables) → HaveRows (rows_by_place (instance_of store.tables)) store new
      → (instance_of new.tables ≡ instance_of store.tables) × AreOf schema.tables new.tables
  change_refused new have = (
    rows_kept store new have,
    AreOf-formed schema.tables store.tables new.tables (have_formed (rows_by_place (instance_of store.tables)) store new have) are,
  )

  -- ---- refusals of the change

  module _ (targets : AreToOthers schema) (back : RefersBack [] schema.tables) (links : store.links ≡ all_references schema) (queries : List BoundQuery)
      (stored : StoredRows) (there : IsAt store own.0 stored) where
    abbrev name : List ℕ
    name = changed_table mutation

    abbrev after : State
    after = after_change mutation (watched_state schema store.tables queries)

    at : IsBeside schema.tables own.0 stored
    at = beside schema.tables store.tables own.0 stored are there

    own_made : edits_at all_edits own.0 ≡ own.1
    own_made = ap (λ (b : Bool). option_map_or (λ (c : PlacedEdits). c.1) (cond b (Some own) (find (λ (c : PlacedEdits). c.0 == own.0) cascaded)) [])
        (eq-eqb own.0 own.0 refl)

    -- The rows of a table's name are those at its place.
    rows_of_table : (i : ℕ) (t : Table) → slice_get schema.tables i ≡ Some t → rows_edited store all_edits i ≡ rows_in after (name_of t)
    rows_of_table i t here =
        let placed = placed_itself schema distinct i t here in
        ap (λ (by : RowsByPlace). by i) (edited_after queries)
        ∙ (ap (rows_by_place after.rows) (sym (ap (λ p. unwrap_or p 0) placed))
        ∙ sym (rows_by_name (name_of t) schema after.rows (not_lacking (name_of t) schema i t placed here)))

    own_rows : rows_in after name ≡ rows_after stored own.1
    own_rows =
        rows_by_name name schema after.rows (not_lacking name schema own.0 at.table are_edits.placed at.there)
        ∙ (ap (rows_by_place after.rows) (ap (λ p. unwrap_or p 0) are_edits.placed)
        ∙ (sym (ap (λ (by : RowsByPlace). by own.0) (edited_after queries))
        ∙ (ap (λ (s : Option StoredRows). option_map_or (λ k. rows_after k (edits_at all_edits own.0)) s []) there
        ∙ ap (rows_after stored) own_made)))

    -- Tables before the one that a change names keep their rows.
    older_kept : (k : ℕ) → k < own.0 → rows_edited store all_edits k ≡ rows_at store.tables k
    older_kept k below =
        let none : edits_at all_edits k ≡ [] = none_at k all_edits (none_later k all_edits (below, all_later cascaded turn.1)) in
        ap (λ (es : List Edit). option_map_or (λ s. rows_after s es) (slice_get store.tables k) []) none ∙ by (slice_get store.tables k)
      where
        all_later : (cs : List PlacedEdits) → AllByRecursion (λ (d : PlacedEdits). own.0 < d.0) cs → AllByRecursion (λ (d : PlacedEdits). k < d.0) cs
        all_later [] later = tt
        all_later (c ∷ cs) later = (let above = later.0 in omega arith, all_later cs later.1)

        by : (found : Option StoredRows) → option_map_or (λ s. rows_after s []) found [] ≡ option_map_or rows_of found []
        by None = refl
        by (Some s) = refl

    to_kept : (r : ℕ × List ℕ) → IsToOther schema name r → IsOlder schema own.0 r → IsToKept schema store.tables are name own.0 are_edits.placed after.rows
        (rows_after stored own.1) r
    to_kept r other older = (
      other.0,
      let k = some_place schema r.1 other.0 in
          let first : k.0 ≡ first_of r.1 schema.tables = place_from_some _ schema.tables k.0 k.1 in
          rows_by_name r.1 schema after.rows other.0
          ∙ (ap (rows_by_place after.rows) (ap (λ p. unwrap_or p 0) k.1)
          ∙ (sym (ap (λ (by : RowsByPlace). by k.0) (edited_after queries))
          ∙ (older_kept k.0 (omega (arith, first, older)) ∙ sym (rows_at_name schema store.tables are r.1 k.0 k.1)))),
    )

    lacking : some_lacks_target name after ≡ has_orphans store own.0 (rows_after stored own.1)
    lacking =
        (λ i. list_any (λ (r : ℕ × List ℕ). list_any (lacks_target_row r.0 (key_named r.1 schema) (rows_in after r.1)) (own_rows i))
        (references_of (columns_named name schema)))
        ∙ (sym (lacks_are schema store.tables are name own.0 are_edits.placed after.rows (rows_after stored own.1) at.table at.there
        (all_both (references_of at.table.definition.columns) (others_at schema name own.0 are_edits.placed at.table at.there targets)
        (older_at schema back own.0 at.table at.there)))
        ∙ ap (list_any (finds_orphan store.tables own.0 (rows_after stored own.1))) (sym links))
      where
        all_both : (refs : List (ℕ × List ℕ)) → AllByRecursion (IsToOther schema name) refs → AllByRecursion (IsOlder schema own.0) refs
            → AllByRecursion (IsToKept schema store.tables are name own.0 are_edits.placed after.rows (rows_after stored own.1)) refs
        all_both [] others older = tt
        all_both (r ∷ rs) others older = (to_kept r others.0 older.0, all_both rs others.1 older.1)

    -- Edits of a table leave orphans exactly if the state finds some by its name.
    orphans_of : (c : PlacedEdits) → FitsAt store c
        → list_any (leaves_orphan store all_edits c) store.links ≡ is_referred_to after (named schema store.tables c)
    orphans_of c fit =
        let here = beside schema.tables store.tables c.0 fit.0 are fit.1 in
        let n = name_of here.table in
        let placed = placed_itself schema distinct c.0 here.table here.there in
        let called : n ≡ (named schema store.tables c).table = sym (ap (λ (t : Option Table). option_map_or name_of t []) here.there) in
        let key : key_at store.tables c.0 ≡ key_named n schema = sym (key_by_name schema store.tables are n c.0 placed) in
        ap (list_any (leaves_orphan store all_edits c)) links
        ∙ ((λ i. list_any (λ (r : Reference). (r.to == c.0) && lose_targets r.column (key i) (rows_edited store all_edits r.from) (pairs_at store.tables c))
        (all_references schema))
        ∙ (loses_are schema n c.0 placed here.table here.there (rows_edited store all_edits) after.rows rows_of_table (key_named n schema)
        (pairs_at store.tables c) (all_there schema targets)
        ∙ ap (λ (m : List ℕ). is_referred_to after (record { table = m; pairs = pairs_at store.tables c })) called))

    referred : some_is_referred (edits mutation (watched_state schema store.tables queries)) after ≡ leaves_orphans store all_edits
    referred =
        ap (λ (es : List NamedEdits). some_is_referred es after) (sym (edits_are queries))
        ∙ sym (by all_edits (recursion_from_All (FitsAt store) all_edits are_edits.are.fit))
      where
        by : (cs : List PlacedEdits) → AllByRecursion (FitsAt store) cs
            → list_any (λ (c : PlacedEdits). list_any (leaves_orphan store all_edits c) store.links) cs
            ≡ list_any (is_referred_to after) (map (named schema store.tables) cs)
        by [] fit = refl
        by (c ∷ cs) fit = λ i. orphans_of c fit.0 i || by cs fit.1 i

    -- The relations, the references and the lists refuse the edits exactly as the state refuses the change.
    pub due_of_edits : (lists : List StandingQuery) → All (IsPlaced schema) lists → queries ≡ queries_of lists
        → first_refusal (binding_conditions mutation schema ++ value_conditions mutation (state_of schema store.tables)) ≡ None
        → first_refusal (edits_conditions store stored own cascaded ++ list_conditions (rows_edited store all_edits) lists)
        ≡ first_refusal (change_conditions mutation (watched_state schema store.tables queries))
    due_of_edits lists are_placed are_queries none =
        let key = key_is schema store.tables are name own.0 are_edits.placed stored there in
        let growth : growth_conditions after ≡ list_conditions (rows_edited store all_edits) lists =
        growth_placed after lists are_queries are_placed ∙ ap (λ (by : RowsByPlace). list_conditions by lists) (sym (edited_after queries)) in
        sym (due_behind_values mutation (watched_state schema store.tables queries)
        (ap (λ values. first_refusal (binding_conditions mutation schema ++ values)) (sym (values_watched schema store.tables queries mutation)) ∙ none)
        ∙ λ i. first_refusal (table_rows_conditions (key i) (own_rows i) (lacking i) (referred i) ++ growth i))

  pub change_due : (lists : List StandingQuery) → All (IsPlaced schema) lists → AreToOthers schema → RefersBack [] schema.tables → store.links
      ≡ all_references schema
      → first_refusal (binding_conditions mutation schema ++ value_conditions mutation (state_of schema store.tables)) ≡ None
      → {T : Type 0} (result : Result T Refusal)
      → ((stored : StoredRows) → IsAt store own.0 stored
      → AnswersDue (first_refusal (edits_conditions store stored own cascaded ++ list_conditions (rows_edited store all_edits) lists)) result)
      → AnswersDue (first_refusal (change_conditions mutation (watched_state schema store.tables (queries_of lists)))) result
  change_due lists are_placed targets back links none {T} result each =
      let stored = own_there.0 in
      subst (λ due. AnswersDue {T = T} due result)
      (due_of_edits targets back links (queries_of lists) stored own_there.1 lists are_placed refl none) (each stored own_there.1)
