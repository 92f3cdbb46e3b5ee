-- The tables and rows of every state that commands lead to are those that a dump restores.
use Rattle.std.proofs.Common.{◌≡◌, ◌≤◌, ℕ, Bool, true, false, cond, not, leb, List, [], ◌∷◌, ◌++◌, Option, Some, None, filter, find, is_none, is_some}
use Rattle.std.proofs.Common.{length, map}
use Rattle.std.proofs.Common.{inl, inr, refl, sym, ap, ◌∙◌, subst, append-nil, length-append, arith}
use Rattle.std.specs.Prelude.{All}
use Rattle.std.specs.List.{AllByRecursion, IsDistinct, list_any}
use Rattle.std.specs.Option.{option_map_or}
use Rattle.std.proofs.lemmas.Bool.{cases_Bool, false≢true, leb-false, ltb-false, or_parts}
use Rattle.std.proofs.lemmas.List.Concat.{flat_map-append}
use Rattle.std.proofs.lemmas.List.Elements.{All-filter, All-from_recursion, All-nil, All-push, recursion_from_All}
use Rattle.std.proofs.lemmas.List.Sorted.{length_permutation}
use Rattle.std.proofs.lemmas.Map.Keys.{IsDistinct-tail}
use Rattle.mm_schema.specs.Columns.{column_place, key_place}
use Rattle.mm_schema.specs.Indexes.{HasOwnIndexes, has_duplicate_indexes, index_conditions, indexes_of, table_with_index, table_without_index}
use Rattle.mm_schema.specs.Instance.{Instance, TableEdits, changed_instance, pairs_of, rows_named, without_rows}
use Rattle.mm_schema.specs.Name.{same_name}
use Rattle.mm_schema.specs.Refused.{first_refusal}
use Rattle.mm_schema.specs.Rows.{Pair, changed, column_cmp, goes, most_rows, unsorted}
use Rattle.mm_schema.specs.Sorting.{in_order}
use Rattle.mm_schema.specs.Schema.{Schema, drop_table_conditions, is_other_referring_to, reads_table}
use Rattle.mm_schema.specs.declared.index.IndexDef.{IndexDef}
use Rattle.mm_schema.specs.declared.table.Table.{Table}
use Rattle.mm_schema.specs.declared.table.TableDef.{TableDef}
use Rattle.mm_schema.proofs.DuplicateIndexes.{distinct_in_fewer, distinct_with, distinct_without, others_stay}
use Rattle.mm_schema.proofs.Duplicates.{Row}
use Rattle.mm_schema.proofs.IndexLemmas.{new_index_is_free}
use Rattle.mm_schema.proofs.InOrder.{IsPermutation-in_order}
use Rattle.mm_schema.proofs.Instances.{AreBeside, beside_from_order, changed_instance-others, edits_of_one, name_of, others_lack, pairs_of-other, pairs_of-own}
use Rattle.mm_schema.proofs.NameLemmas.{same_bytes}
use Rattle.mm_schema.proofs.References.{same_with, same_without, second_none}
use Rattle.mm_query.specs.Binding.{tests_for}
use Rattle.mm_query.specs.Edits.{changed_table, edits, meets, own_edits, own_pairs}
use Rattle.mm_query.specs.Machine.{after_all, after_change, after_definition, after_edits, change_conditions, definition_conditions, row_conditions}
use Rattle.mm_query.specs.Machine.{some_lacks_target, step}
use Rattle.mm_query.specs.Standing.{AreBound, HasQueries, growth_conditions}
use Rattle.mm_query.specs.State.{State, first_state, rows_in}
use Rattle.mm_query.specs.declared.command.Command.{Command}
use Rattle.mm_query.specs.declared.command.Definition.{Definition}
use Rattle.mm_query.specs.declared.command.Definition.TheVariants as define
use Rattle.mm_query.specs.declared.command.Mutation.{Mutation}
use Rattle.mm_query.specs.declared.command.Mutation.TheVariants.{Insert, Update, Delete}
use Rattle.mm_query.proofs.PlacedQueries.{none_hold}
use Rattle.mm_laws.proofs.KeyOrder.{IsKept, kept_at_first, kept_by_change, kept_by_definition, none_due_by_rows}
use Rattle.mm_laws.proofs.NamedRows.{has}
use Rattle.mm_laws.proofs.Removals.{AreRemovals, EachRemoves, cascades_remove, none_comes, removals_remove}
use Rattle.mm_laws.specs.Typing.{IsTyped}
use Rattle.mm_laws.proofs.StandingQueries.{watched_at_first, watched_by_step}
use Rattle.mm_laws.proofs.Throughout.{HoldsThroughout, held_by_all}
use Rattle.mm_laws.proofs.TypedSteps.{typed_at_first, typed_by_step}
use Rattle.mm_dump.proofs.Restorable.{AreCreatable, AreRestorable, HasIndexLimits, without_indexes}
use Rattle.mm_dump.proofs.Creatable.{conditions_same, creatable_kept, creatable_left, creatable_pushed, length-filter_le}

-- ---- indexes

-- Each step keeps these properties of the indexes of tables.
record AreIndexed (tables : List Table) : Type 0 where
  in_place : All HasOwnIndexes tables
  distinct : has_duplicate_indexes (indexes_of tables) ≡ false
  limits : All HasIndexLimits tables

module _ (index : IndexDef) where
  own_pushed : (t : Table) → HasOwnIndexes t → HasOwnIndexes (table_with_index index t)
  own_pushed t own = by (same_name index.table (name_of t)) refl
    where
      by : (b : Bool) → same_name index.table (name_of t) ≡ b → HasOwnIndexes (cond b (record t { indexes = t.indexes ++ index ∷ [] }) t)
      by true same = All-push (λ (i : IndexDef). i.table ≡ name_of t) t.indexes index own (same_bytes index.table (name_of t) same)
      by false other = own

  each_own : (ts : List Table) → AllByRecursion HasOwnIndexes ts → AllByRecursion HasOwnIndexes (map (table_with_index index) ts)
  each_own [] own = tt
  each_own (t ∷ ts) own = (own_pushed t own.0, each_own ts own.1)

  limits_pushed : (ts : List Table) → IsDistinct same_name (map name_of ts)
      → option_map_or (λ (t : Table). is_none (column_place index.column t.definition.columns)) (find (has index.table) ts) false ≡ false
      → option_map_or (λ (t : Table). leb 16 (length t.indexes)) (find (has index.table) ts) false ≡ false
      → AllByRecursion HasIndexLimits ts → AllByRecursion HasIndexLimits (map (table_with_index index) ts)
  limits_pushed [] distinct there few limits = tt
  limits_pushed (t ∷ ts) distinct there few limits =
      by (has index.table t) refl there few (limits_pushed ts (IsDistinct-tail same_name (name_of t) (map name_of ts) distinct))
    where
      by : (b : Bool) → has index.table t ≡ b
          → option_map_or (λ (u : Table). is_none (column_place index.column u.definition.columns)) (cond b (Some t) (find (has index.table) ts)) false ≡ false
          → option_map_or (λ (u : Table). leb 16 (length u.indexes)) (cond b (Some t) (find (has index.table) ts)) false ≡ false
          → (option_map_or (λ (u : Table). is_none (column_place index.column u.definition.columns)) (find (has index.table) ts) false ≡ false
          → option_map_or (λ (u : Table). leb 16 (length u.indexes)) (find (has index.table) ts) false ≡ false
          → AllByRecursion HasIndexLimits ts → AllByRecursion HasIndexLimits (map (table_with_index index) ts))
          → HasIndexLimits (cond b (record t { indexes = t.indexes ++ index ∷ [] }) t) × AllByRecursion HasIndexLimits (map (table_with_index index) ts)
      by true own column room later = (
        record {
          few = let lt = leb-false 16 (length t.indexes) room in omega (arith, lt, length-append t.indexes (index ∷ []));
          there = All-push (λ (i : IndexDef). is_some (column_place i.column t.definition.columns) ≡ true) t.indexes index limits.0.there
              (is_there (column_place index.column t.definition.columns) column);
        },
        subst (AllByRecursion HasIndexLimits) (sym (others_stay index ts (others_lack index.table t ts own distinct))) limits.1,
      )
        where
          is_there : (o : Option ℕ) → is_none o ≡ false → is_some o ≡ true
          is_there None none = absurd (false≢true (sym none))
          is_there (Some place) none = refl
      by false other column room later = (limits.0, later column room limits.1)

pushed_indexed : (index : IndexDef) (schema : Schema) → first_refusal (index_conditions index schema) ≡ None → IsDistinct same_name (map name_of schema.tables)
    → AreIndexed schema.tables → AreIndexed (map (table_with_index index) schema.tables)
pushed_indexed index schema due distinct is =
    let hold = none_hold (index_conditions index schema) due in
    record {
      in_place = All-from_recursion HasOwnIndexes _ (each_own index schema.tables (recursion_from_All HasOwnIndexes schema.tables is.in_place));
      distinct = distinct_with index schema.tables distinct (new_index_is_free index schema due) is.distinct;
      limits = All-from_recursion HasIndexLimits _
          (limits_pushed index schema.tables distinct hold.1.0 hold.1.1.1.0 (recursion_from_All HasIndexLimits schema.tables is.limits));
    }

module _ (name : List ℕ) where
  abbrev keeps : IndexDef → Bool
  keeps index = not (same_name name index.name)

  each_own_left : (ts : List Table) → AllByRecursion HasOwnIndexes ts → AllByRecursion HasOwnIndexes (map (table_without_index name) ts)
  each_own_left [] own = tt
  each_own_left (t ∷ ts) own = (All-filter keeps (λ (i : IndexDef). i.table ≡ name_of t) t.indexes own.0, each_own_left ts own.1)

  limits_left : (ts : List Table) → AllByRecursion HasIndexLimits ts → AllByRecursion HasIndexLimits (map (table_without_index name) ts)
  limits_left [] limits = tt
  limits_left (t ∷ ts) limits = (
    record {
      few = omega (arith, limits.0.few, length-filter_le keeps t.indexes);
      there = All-filter keeps (λ (i : IndexDef). is_some (column_place i.column t.definition.columns) ≡ true) t.indexes limits.0.there;
    },
    limits_left ts limits.1,
  )

  unindexed : (ts : List Table) → AreIndexed ts → AreIndexed (map (table_without_index name) ts)
  unindexed ts is = record {
    in_place = All-from_recursion HasOwnIndexes _ (each_own_left ts (recursion_from_All HasOwnIndexes ts is.in_place));
    distinct = distinct_without name ts is.distinct;
    limits = All-from_recursion HasIndexLimits _ (limits_left ts (recursion_from_All HasIndexLimits ts is.limits));
  }

indexed_behind : (definition : TableDef) (ts : List Table) → AreIndexed ts → AreIndexed (ts ++ record { definition = definition; indexes = [] } ∷ [])
indexed_behind definition ts is =
    let t : Table = record { definition = definition; indexes = [] } in
    let none : indexes_of (ts ++ t ∷ []) ≡ indexes_of ts = flat_map-append (λ (u : Table). u.indexes) ts (t ∷ []) ∙ append-nil (indexes_of ts) in
    record {
      in_place = All-push HasOwnIndexes ts t is.in_place (All-nil (λ (i : IndexDef). i.table ≡ name_of t));
      distinct = ap has_duplicate_indexes none ∙ is.distinct;
      limits = All-push HasIndexLimits ts t is.limits
          (record { few = omega arith; there = All-nil (λ (i : IndexDef). is_some (column_place i.column definition.columns) ≡ true) });
    }

indexed_left : (stays : Table → Bool) (ts : List Table) → AreIndexed ts → AreIndexed (filter stays ts)
indexed_left stays ts is = record {
  in_place = All-filter stays HasOwnIndexes ts is.in_place;
  distinct = distinct_in_fewer stays ts is.distinct;
  limits = All-filter stays HasIndexLimits ts is.limits;
}

-- ---- sizes

abbrev IsSmall : List Row → Type 0
IsSmall rows = length rows ≤ most_rows

abbrev AreSmall : Instance → Type 0
AreSmall rows = AllByRecursion IsSmall rows

small_behind : (rows : Instance) → AreSmall rows → AreSmall (rows ++ [] ∷ [])
small_behind [] small = (omega arith, tt)
small_behind (r ∷ rs) small = (small.0, small_behind rs small.1)

small_without : (gone : List ℕ) (ts : List Table) (rows : Instance) → AreSmall rows → AreSmall (without_rows gone ts rows)
small_without gone [] rows small = tt
small_without gone (t ∷ ts) [] small = tt
small_without gone (t ∷ ts) (r ∷ rs) small = by (same_name gone (name_of t)) (small_without gone ts rs small.1)
  where
    by : (b : Bool) → AreSmall (without_rows gone ts rs) → AreSmall (cond b (without_rows gone ts rs) (r ∷ without_rows gone ts rs))
    by true later = later
    by false later = (small.0, later)

module _ (name : List ℕ) (pairs : List Pair) where
  -- A change of one table keeps all sizes if it keeps its own.
  small_changed : (ts : List Table) (rows : Instance) → AreBeside ts rows → IsDistinct same_name (map name_of ts) → AreSmall rows
      → IsSmall (rows_named name ts (changed_instance ts (edits_of_one name pairs) rows)) → AreSmall (changed_instance ts (edits_of_one name pairs) rows)
  small_changed [] [] beside distinct small own = tt
  small_changed (t ∷ ts) (r ∷ rs) beside distinct small own =
      by (has name t) refl own (small_changed ts rs beside (IsDistinct-tail same_name (name_of t) (map name_of ts) distinct) small.1)
    where
      by : (b : Bool) → has name t ≡ b
          → IsSmall (cond b (changed (key_place t.definition.columns) (pairs_of (name_of t) (edits_of_one name pairs)) r)
          (rows_named name ts (changed_instance ts (edits_of_one name pairs) rs)))
          → (IsSmall (rows_named name ts (changed_instance ts (edits_of_one name pairs) rs)) → AreSmall (changed_instance ts (edits_of_one name pairs) rs))
          → AreSmall (changed_instance (t ∷ ts) (edits_of_one name pairs) (r ∷ rs))
      by true is small_here later =
          (small_here, subst AreSmall (sym (changed_instance-others name pairs ts rs beside (others_lack name t ts is distinct))) small.1)
      by false other own_rest later = (
        subst IsSmall (sym (ap (λ ps. changed (key_place t.definition.columns) ps r) (pairs_of-other name pairs (name_of t) other))) small.0,
        later own_rest,
      )
  small_changed [] (r ∷ rs) beside distinct small own = absurd beside
  small_changed (t ∷ ts) [] beside distinct small own = absurd beside

-- Removals leave no more rows.
fewer_left : (key : ℕ) (pairs : List Pair) (rows : List Row) → AreRemovals pairs → length (changed key pairs rows) ≤ length rows
fewer_left key [] rows none = omega arith
fewer_left key (p ∷ ps) rows none =
    let pairs : List Pair = p ∷ ps in
    let left : List Row = filter (λ row. not (list_any (λ q. goes key row q.0) pairs)) rows in
    let just_left : unsorted key pairs rows ≡ left = ap (λ fresh. left ++ fresh) (none_comes pairs none) ∙ append-nil left in
    let sorted = length_permutation (unsorted key pairs rows) (in_order (column_cmp key) (unsorted key pairs rows))
    (IsPermutation-in_order (column_cmp key) (unsorted key pairs rows)) in
    omega (arith, sorted, ap length just_left, length-filter_le (λ row. not (list_any (λ q. goes key row q.0) pairs)) rows)

small_removed : (name : List ℕ) (pairs : List Pair) → AreRemovals pairs → (ts : List Table) (rows : Instance) → AreSmall rows
    → AreSmall (changed_instance ts (edits_of_one name pairs) rows)
small_removed name pairs none [] [] small = tt
small_removed name pairs none [] (r ∷ rs) small = tt
small_removed name pairs none (t ∷ ts) [] small = tt
small_removed name pairs none (t ∷ ts) (r ∷ rs) small = (
  elim (cases_Bool (same_name name (name_of t))) [
    | inl own ↦
        subst (λ ps. IsSmall (changed (key_place t.definition.columns) ps r)) (sym (pairs_of-own name pairs (name_of t) own))
        (let fewer = fewer_left (key_place t.definition.columns) pairs r none in omega (arith, fewer, small.0))
    | inr other ↦ subst (λ ps. IsSmall (changed (key_place t.definition.columns) ps r)) (sym (pairs_of-other name pairs (name_of t) other)) small.0
  ],
  small_removed name pairs none ts rs small.1,
)

small_all_removed : (ts : List Table) (es : List TableEdits) (rows : Instance) → EachRemoves es → AreSmall rows → AreSmall (after_edits ts es rows)
small_all_removed ts [] rows none small = small
small_all_removed ts (e ∷ es) rows none small =
    small_all_removed ts es (changed_instance ts (e ∷ []) rows) none.1 (small_removed e.table e.pairs none.0 ts rows small)

module _ (mutation : Mutation) (state : State) (due : first_refusal (change_conditions mutation state) ≡ None) (kept : IsKept state.schema state.rows)
    (small : AreSmall state.rows) (one : edits mutation state ≡ own_edits mutation state ∷ []) where
  own_small : IsSmall (rows_in (after_change mutation state) (changed_table mutation))
  own_small =
      let after = after_change mutation state in
      let hold =
      none_hold (row_conditions (changed_table mutation) (edits mutation state) after ++ growth_conditions after) (none_due_by_rows mutation state due) in
      ltb-false most_rows (length (rows_in after (changed_table mutation))) hold.1.1.1.0

  small_of_one : AreSmall (after_change mutation state).rows
  small_of_one =
      subst (λ (es : List TableEdits). AreSmall (after_edits state.schema.tables es state.rows)) (sym one)
      (small_changed (changed_table mutation) (own_pairs mutation state) state.schema.tables state.rows
      (beside_from_order state.schema.tables state.rows kept.order) kept.distinct small
      (subst (λ (es : List TableEdits). IsSmall (rows_in (record state { rows = after_edits state.schema.tables es state.rows }) (changed_table mutation)))
      one own_small))

small_after : (mutation : Mutation) (state : State) → first_refusal (change_conditions mutation state) ≡ None → IsKept state.schema state.rows
    → AreSmall state.rows → AreSmall (after_change mutation state).rows
small_after (Insert table tuples) state due kept small = small_of_one (Insert table tuples) state due kept small refl
small_after (Update table assignments tests) state due kept small = small_of_one (Update table assignments tests) state due kept small refl
small_after (Delete table tests) state due kept small =
    small_all_removed state.schema.tables (edits (Delete table tests) state) state.rows
    (cascades_remove state.schema state.schema.tables state.rows (own_edits (Delete table tests) state ∷ [])
    (removals_remove (filter (meets (tests_for table state.schema tests)) (rows_in state table)), tt)) small

-- ---- every step

-- Each step keeps these properties of a catalog and rows.
record IsDumpable (schema : Schema) (rows : Instance) : Type 0 where
  kept : IsKept schema rows
  creatable : AreCreatable [] schema.tables
  indexed : AreIndexed schema.tables
  small : AreSmall rows

unused_by : (name : List ℕ) (schema : Schema) → first_refusal (drop_table_conditions name schema) ≡ None
    → list_any (is_other_referring_to name) schema.tables ≡ false
unused_by name schema due =
    (or_parts (list_any (is_other_referring_to name) schema.tables) (list_any (reads_table name) schema.standing) (second_none _ _ _ _ _ due)).0

dumpable_by_definition : (definition : Definition) (state : State) → first_refusal (definition_conditions definition state) ≡ None
    → IsDumpable state.schema state.rows → IsDumpable (after_definition definition state).schema (after_definition definition state).rows
dumpable_by_definition (define.Table definition) state due is = record {
  kept = kept_by_definition (define.Table definition) state due is.kept;
  creatable = creatable_pushed [] state.schema.tables (record { definition = definition; indexes = [] }) is.creatable
      (conditions_same without_indexes (λ t. refl) state.schema [] definition ∙ due);
  indexed = indexed_behind definition state.schema.tables is.indexed;
  small = small_behind state.rows is.small;
}
dumpable_by_definition (define.DropTable name) state due is = record {
  kept = kept_by_definition (define.DropTable name) state due is.kept;
  creatable = creatable_left name [] state.schema.tables is.creatable (unused_by name state.schema due);
  indexed = indexed_left (λ t. not (same_name name t.definition.name)) state.schema.tables is.indexed;
  small = small_without name state.schema.tables state.rows is.small;
}
dumpable_by_definition (define.Index index) state due is = record {
  kept = kept_by_definition (define.Index index) state due is.kept;
  creatable = creatable_kept (table_with_index index) (same_with index) [] state.schema.tables is.creatable;
  indexed = pushed_indexed index state.schema due is.kept.distinct is.indexed;
  small = is.small;
}
dumpable_by_definition (define.DropIndex name) state due is = record {
  kept = kept_by_definition (define.DropIndex name) state due is.kept;
  creatable = creatable_kept (table_without_index name) (same_without name) [] state.schema.tables is.creatable;
  indexed = unindexed name state.schema.tables is.indexed;
  small = is.small;
}
dumpable_by_definition (define.Watch watched) state due is = record {
  kept = kept_by_definition (define.Watch watched) state due is.kept;
  creatable = is.creatable;
  indexed = is.indexed;
  small = is.small;
}
dumpable_by_definition (define.Unwatch name) state due is = record {
  kept = kept_by_definition (define.Unwatch name) state due is.kept;
  creatable = is.creatable;
  indexed = is.indexed;
  small = is.small;
}

dumpable_by_change : (mutation : Mutation) (state : State) → first_refusal (change_conditions mutation state) ≡ None
    → IsDumpable state.schema state.rows → IsDumpable state.schema (after_change mutation state).rows
dumpable_by_change mutation state due is = record {
  kept = kept_by_change mutation state due is.kept;
  creatable = is.creatable;
  indexed = is.indexed;
  small = small_after mutation state due is.kept is.small;
}

dumpable_at_first : IsDumpable first_state.schema first_state.rows
dumpable_at_first = record {
  kept = kept_at_first;
  creatable = tt;
  indexed = record { in_place = All-nil HasOwnIndexes; distinct = refl; limits = All-nil HasIndexLimits };
  small = tt;
}

-- ---- every state

typed_after : (commands : List Command) (state : State) → HoldsThroughout IsKept state → HasQueries state → AreBound state → IsTyped state
    → IsTyped (after_all commands state)
typed_after [] state kept beside bound typed = typed
typed_after (c ∷ cs) state kept beside bound typed =
    let watched = watched_by_step c state beside bound in
    typed_after cs (step c state).state (held_by_all IsKept kept_by_definition kept_by_change (c ∷ []) state kept) watched.0 watched.1
    (typed_by_step c state kept.rows.distinct beside bound typed)

module _ (commands : List Command) where
  abbrev reached : State
  reached = after_all commands first_state

  -- If no row lacks its target, a state that commands lead to can be restored.
  pub reached_restorable : ((name : List ℕ) → some_lacks_target name reached ≡ false) → AreRestorable reached.schema.tables reached.rows
  reached_restorable targets =
      let held : HoldsThroughout IsDumpable reached =
      held_by_all IsDumpable dumpable_by_definition dumpable_by_change commands first_state (record { rows = dumpable_at_first; saved = tt }) in
      let typed : IsTyped reached =
      typed_after commands first_state (record { rows = kept_at_first; saved = tt }) watched_at_first.0 watched_at_first.1 typed_at_first in
      record {
        creatable = held.rows.creatable;
        order = held.rows.kept.order;
        typed = typed.rows;
        targets = targets;
        sizes = All-from_recursion IsSmall reached.rows held.rows.small;
        in_place = held.rows.indexed.in_place;
        distinct = held.rows.indexed.distinct;
        limits = held.rows.indexed.limits;
      }
