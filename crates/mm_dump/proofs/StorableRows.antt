-- Changes of rows whose literals can be stored leave rows whose values can be stored.
use Rattle.std.proofs.Common.{◌≡◌, ℕ, ℤ, pos, ◌+◌, ◌==◌, ◌≤ℤ◌, ◌<ℤ◌, Bool, true, false, cond, inl, inr, List, [], ◌∷◌, ◌++◌, Some, None}
use Rattle.std.proofs.Common.{filter, find, map, sym, ◌∙◌, subst, Ordering, arith}
use Rattle.std.specs.Prelude.{All}
use Rattle.std.specs.List.{AllByRecursion, flat_map, list_any}
use Rattle.std.specs.Option.{option_map_or}
use Rattle.std.specs.Ordering.{MatchOrdering, int_cmp, is_gt, is_lt}
use Rattle.std.specs.declared.cmp.Ordering.TheVariants.{Equal, Greater, Less}
use Rattle.std.specs.Cmp.{int_ranks}
use Rattle.std.proofs.Math.IntN.{negsuc}
use Rattle.std.proofs.lemmas.Bool.{cases_Bool, false≢true, or_parts}
use Rattle.std.proofs.lemmas.Int.{ints}
use Rattle.std.proofs.lemmas.List.Elements.{All-filter, All-from_recursion, All-nil, All-weaker, recursion_from_All}
use Rattle.std.proofs.lemmas.List.Folds.{list_any-append}
use Rattle.mm_value.specs.Storable.{AreStorable, IsStorable}
use Rattle.mm_value.specs.Text.{IsText}
use Rattle.mm_value.specs.declared.values.Value.{Value}
use Rattle.mm_value.specs.declared.values.Value.TheVariants.{Int, Text}
use Rattle.mm_schema.specs.Columns.{key_place}
use Rattle.mm_schema.specs.Instance.{Instance, TableEdits, changed_instance, rows_named, without_rows}
use Rattle.mm_schema.specs.Name.{same_name}
use Rattle.mm_schema.specs.Refused.{first_refusal}
use Rattle.mm_schema.specs.Rows.{changed}
use Rattle.mm_schema.specs.Schema.{columns_named}
use Rattle.mm_schema.specs.declared.table.Table.{Table}
use Rattle.mm_schema.proofs.Dues.{none_due_behind}
use Rattle.mm_schema.proofs.Instances.{name_of, pairs_of-other, pairs_of-own}
use Rattle.mm_schema.proofs.StrictOrder.{AllByRecursion-append_left, AllByRecursion-append_right}
use Rattle.mm_query.specs.Atoms.{is_past_range, range_conditions, shifted, updated_from, updated_row, value_for, value_in}
use Rattle.mm_query.specs.Binding.{assignments_for, binding_conditions, tests_for}
use Rattle.mm_query.specs.Edits.{changed_table, edits, meets, new_values, own_edits, own_pairs, value_conditions}
use Rattle.mm_query.specs.Machine.{after_change, after_edits, change_conditions, row_conditions}
use Rattle.mm_query.specs.Placing.{placed, placed_assignment, placed_operand}
use Rattle.mm_query.specs.Standing.{growth_conditions}
use Rattle.mm_query.specs.State.{State, rows_in}
use Rattle.mm_query.specs.declared.atom.Assignment.{Assignment}
use Rattle.mm_query.specs.declared.atom.Atom.{Atom}
use Rattle.mm_query.specs.declared.atom.Operand.{Operand}
use Rattle.mm_query.specs.declared.atom.Operand.TheVariants as operand
use Rattle.mm_query.specs.declared.command.Command.TheVariants as command
use Rattle.mm_query.specs.declared.command.Mutation.{Mutation}
use Rattle.mm_query.specs.declared.command.Mutation.TheVariants.{Insert, Update, Delete}
use Rattle.mm_query.proofs.PlacedQueries.{none_hold}
use Rattle.mm_query.proofs.Storables.{value_in_storable}
use Rattle.mm_lang.specs.Reading.{assignment_literals, literals_of, operand_literals, test_literals}
use Rattle.mm_laws.proofs.Removals.{EachRemoves, cascades_remove, none_comes, removals_remove}
use Rattle.mm_laws.proofs.TypedRows.{coming, coming_added, coming_changed, held_by_changed}
use Rattle.mm_laws.proofs.TypedSteps.{none_in_front}

abbrev Row : Type 0
Row = List Value

-- All values of rows can be stored.
abbrev pub AreStored : Instance → Type 0
AreStored rows = AllByRecursion (λ (table_rows : List Row). All AreStorable table_rows) rows

-- ---- edits

changed_stored : (tables : List Table) (edit : TableEdits) (rows : Instance) → AreStored rows → All AreStorable (coming edit.pairs)
    → AreStored (changed_instance tables (edit ∷ []) rows)
changed_stored [] edit [] stored new = tt
changed_stored [] edit (r ∷ rs) stored new = tt
changed_stored (t ∷ ts) edit [] stored new = tt
changed_stored (t ∷ ts) edit (r ∷ rs) stored new = (
  elim (cases_Bool (same_name edit.table (name_of t))) [
    | inl own ↦
        subst (λ pairs. All AreStorable (changed (key_place t.definition.columns) pairs r)) (sym (pairs_of-own edit.table edit.pairs (name_of t) own))
        (held_by_changed AreStorable (key_place t.definition.columns) edit.pairs r stored.0 new)
    | inr other ↦
        subst (λ pairs. All AreStorable (changed (key_place t.definition.columns) pairs r)) (sym (pairs_of-other edit.table edit.pairs (name_of t) other))
        stored.0
  ],
  changed_stored ts edit rs stored.1 new,
)

all_changed : (tables : List Table) (es : List TableEdits) (rows : Instance) → AreStored rows
    → AllByRecursion (λ (e : TableEdits). All AreStorable (coming e.pairs)) es → AreStored (after_edits tables es rows)
all_changed tables [] rows stored new = stored
all_changed tables (e ∷ es) rows stored new =
    all_changed tables es (changed_instance tables (e ∷ []) rows) (changed_stored tables e rows stored new.0) new.1

none_new : (es : List TableEdits) → EachRemoves es → AllByRecursion (λ (e : TableEdits). All AreStorable (coming e.pairs)) es
none_new [] none = tt
none_new (e ∷ es) none = (subst (All AreStorable) (sym (none_comes e.pairs none.0)) (All-nil AreStorable), none_new es none.1)

-- ---- INSERT

tuples_stored : (tuples : List Row) → AllByRecursion IsStorable (flat_map (λ (tuple : Row). tuple) tuples) → AllByRecursion AreStorable tuples
tuples_stored [] all = tt
tuples_stored (t ∷ ts) all =
    let others = flat_map (λ (tuple : Row). tuple) ts in
    let first = All-from_recursion IsStorable t (AllByRecursion-append_left IsStorable t others all) in
    (first, tuples_stored ts (AllByRecursion-append_right IsStorable t others all))

-- ---- UPDATE

-- A text can be stored, whatever the size of numbers.
abbrev HasText : Value → Type 0
HasText (Int z) = Unit {0}
HasText (Text text) = IsText text

stored_text : (v : Value) → IsStorable v → HasText v
stored_text (Int z) is = tt
stored_text (Text text) is = is

shifted_text : (by : ℤ) (v : Value) → IsStorable v → HasText (shifted by v)
shifted_text by (Int z) is = tt
shifted_text by (Text text) is = is

module _ (columns : List _) (row : Row) (stored : AreStorable row) where
  source_text : (source : Operand (List ℕ)) → AllByRecursion IsStorable (operand_literals source) → HasText (value_for row (placed_operand columns source))
  source_text (operand.Literal value) literals = stored_text value literals.0
  source_text (operand.Column name) literals =
      stored_text (value_in (placed columns name) row) (value_in_storable (placed columns name) row stored)
  source_text (operand.Shifted name by) literals =
      shifted_text by (value_in (placed columns name) row) (value_in_storable (placed columns name) row stored)

  sources_text : (assignments : List (Assignment (List ℕ))) → AllByRecursion IsStorable (flat_map assignment_literals assignments)
      → AllByRecursion (λ (a : Assignment ℕ). HasText (value_for row a.source)) (map (placed_assignment columns) assignments)
  sources_text [] literals = tt
  sources_text (a ∷ as_more) literals =
      let others = flat_map assignment_literals as_more in (
        source_text a.source (AllByRecursion-append_left IsStorable (assignment_literals a) others literals),
        sources_text as_more (AllByRecursion-append_right IsStorable (assignment_literals a) others literals),
      )

module _ (row : Row) (assignments : List (Assignment ℕ)) (all : AllByRecursion (λ (a : Assignment ℕ). HasText (value_for row a.source)) assignments) where
  found_text : (column : ℕ) (old : Value) → HasText old → (found : List (Assignment ℕ))
      → AllByRecursion (λ (a : Assignment ℕ). HasText (value_for row a.source)) found
      → HasText (option_map_or (λ (a : Assignment ℕ). value_for row a.source) (find (λ (a : Assignment ℕ). a.column == column) found) old)
  found_text column old is [] sources = is
  found_text column old is (a ∷ more) sources = by (a.column == column) (found_text column old is more sources.1)
    where
      by : (b : Bool)
          → HasText (option_map_or (λ (a : Assignment ℕ). value_for row a.source) (find (λ (a : Assignment ℕ). a.column == column) more) old)
          → HasText (option_map_or (λ (a : Assignment ℕ). value_for row a.source)
          (cond b (Some a) (find (λ (a : Assignment ℕ). a.column == column) more)) old)
      by true later = sources.0
      by false later = later

  updated_text : (column : ℕ) (olds : Row) → AllByRecursion IsStorable olds → AllByRecursion HasText (updated_from assignments row column olds)
  updated_text column [] stored = tt
  updated_text column (old ∷ olds) stored =
      (found_text column old (stored_text old stored.0) assignments all, updated_text (column + 1) olds stored.1)

-- A whole number that is not past the range has 64 bits.
not_below : (z low : ℤ) → is_lt (int_cmp z low) ≡ false → low ≤ℤ z
not_below z low e = by (int_cmp z low) (int_ranks z low) e
  where
    by : (o : Ordering) → MatchOrdering o (z <ℤ low) (z ≡ low) (low <ℤ z) → is_lt o ≡ false → low ≤ℤ z
    by Less is e = absurd (false≢true (sym e))
    by Equal is e = omega (arith, ints, is)
    by Greater is e = omega (arith, ints, is)

not_above : (z high : ℤ) → is_gt (int_cmp z high) ≡ false → z ≤ℤ high
not_above z high e = by (int_cmp z high) (int_ranks z high) e
  where
    by : (o : Ordering) → MatchOrdering o (z <ℤ high) (z ≡ high) (high <ℤ z) → is_gt o ≡ false → z ≤ℤ high
    by Less is e = omega (arith, ints, is)
    by Equal is e = omega (arith, ints, is)
    by Greater is e = absurd (false≢true (sym e))

in_range : (z : ℤ) → negsuc 9223372036854775807 ≤ℤ z → z ≤ℤ pos 9223372036854775807 → IsStorable (Int z)
in_range (pos n) low high = omega (arith, ints, high)
in_range (negsuc n) low high = omega (arith, ints, low)

value_stored : (v : Value) → HasText v → is_past_range v ≡ false → IsStorable v
value_stored (Int z) text range =
    let p = or_parts (is_lt (int_cmp z (negsuc 9223372036854775807))) (is_gt (int_cmp z (pos 9223372036854775807))) range in
    in_range z (not_below z (negsuc 9223372036854775807) p.0) (not_above z (pos 9223372036854775807) p.1)
value_stored (Text t) text range = text

row_stored : (row : Row) → AllByRecursion HasText row → list_any is_past_range row ≡ false → AllByRecursion IsStorable row
row_stored [] text range = tt
row_stored (v ∷ vs) text range =
    let p = or_parts (is_past_range v) (list_any is_past_range vs) range in (value_stored v text.0 p.0, row_stored vs text.1 p.1)

rows_stored : (rows : List Row) → AllByRecursion (λ (row : Row). AllByRecursion HasText row) rows
    → list_any is_past_range (flat_map (λ (row : Row). row) rows) ≡ false → AllByRecursion AreStorable rows
rows_stored [] text range = tt
rows_stored (r ∷ rs) text range =
    let others = flat_map (λ (row : Row). row) rs in
    let p = or_parts (list_any is_past_range r) (list_any is_past_range others) (sym (list_any-append is_past_range r others) ∙ range) in
    (All-from_recursion IsStorable r (row_stored r text.0 p.0), rows_stored rs text.1 p.1)

named_stored : (name : List ℕ) (tables : List Table) (rows : Instance) → AreStored rows → All AreStorable (rows_named name tables rows)
named_stored name [] rows stored = All-nil AreStorable
named_stored name (t ∷ ts) [] stored = All-nil AreStorable
named_stored name (t ∷ ts) (r ∷ rs) stored = by (same_name name (name_of t)) (named_stored name ts rs stored.1)
  where
    by : (b : Bool) → All AreStorable (rows_named name ts rs) → All AreStorable (cond b r (rows_named name ts rs))
    by true later = stored.0
    by false later = later

module _ (state : State) (stored : AreStored state.rows) where
  module _ (table : List ℕ) (assignments : List (Assignment (List ℕ))) (tests : List (Atom (List ℕ))) where
    -- The rows that an UPDATE makes can be stored.
    updated_stored : All IsStorable (literals_of (command.Change (Update table assignments tests)))
        → list_any is_past_range (new_values (own_pairs (Update table assignments tests) state)) ≡ false
        → All AreStorable (coming (own_pairs (Update table assignments tests) state))
    updated_stored literals range =
        let columns = columns_named table state.schema in
        let made = assignments_for table state.schema assignments in
        let picked = filter (meets (tests_for table state.schema tests)) (rows_in state table) in
        let assigned = AllByRecursion-append_left IsStorable (flat_map assignment_literals assignments) (flat_map test_literals tests)
        (recursion_from_All IsStorable (literals_of (command.Change (Update table assignments tests))) literals) in
        let texts : All (λ (row : Row). AllByRecursion HasText row) (coming (own_pairs (Update table assignments tests) state)) =
        coming_changed (λ (row : Row). AllByRecursion HasText row) (updated_row made) picked
        (All-weaker AreStorable (λ (row : Row). AllByRecursion HasText (updated_row made row))
        (λ row is. updated_text row made (sources_text columns row is assignments assigned) 0 row (recursion_from_All IsStorable row is)) picked
        (All-filter (meets (tests_for table state.schema tests)) AreStorable (rows_in state table)
        (named_stored table state.schema.tables state.rows stored))) in
        let rows = coming (own_pairs (Update table assignments tests) state) in
        All-from_recursion AreStorable rows (rows_stored rows (recursion_from_All (λ (row : Row). AllByRecursion HasText row) rows texts) range)

  -- If a change refuses nothing, it does not refuse a value that it computes.
  values_due : (mutation : Mutation) → first_refusal (change_conditions mutation state) ≡ None → first_refusal (value_conditions mutation state) ≡ None
  values_due mutation due =
      none_in_front (value_conditions mutation state)
      (row_conditions (changed_table mutation) (edits mutation state) (after_change mutation state) ++ growth_conditions (after_change mutation state))
      (none_due_behind (binding_conditions mutation state.schema)
      (value_conditions mutation state
      ++ (row_conditions (changed_table mutation) (edits mutation state) (after_change mutation state) ++ growth_conditions (after_change mutation state)))
      due)

  -- A change leaves rows that can be stored.
  pub stored_after : (mutation : Mutation) → first_refusal (change_conditions mutation state) ≡ None
      → All IsStorable (literals_of (command.Change mutation)) → AreStored (after_change mutation state).rows
  stored_after (Insert table tuples) due literals =
      all_changed state.schema.tables (edits (Insert table tuples) state) state.rows stored (
        subst (All AreStorable) (sym (coming_added tuples))
            (All-from_recursion AreStorable tuples
            (tuples_stored tuples (recursion_from_All IsStorable (literals_of (command.Change (Insert table tuples))) literals))),
        tt,
      )
  stored_after (Update table assignments tests) due literals =
      all_changed state.schema.tables (edits (Update table assignments tests) state) state.rows stored (
        updated_stored table assignments tests literals
            (none_hold (range_conditions (new_values (own_pairs (Update table assignments tests) state))) (values_due (Update table assignments tests) due)).0,
        tt,
      )
  stored_after (Delete table tests) due literals =
      all_changed state.schema.tables (edits (Delete table tests) state) state.rows stored
      (none_new (edits (Delete table tests) state)
      (cascades_remove state.schema state.schema.tables state.rows (own_edits (Delete table tests) state ∷ [])
      (removals_remove (filter (meets (tests_for table state.schema tests)) (rows_in state table)), tt)))

-- ---- tables

-- So do a new table and a dropped one.
pub stored_behind : (rows : Instance) → AreStored rows → AreStored (rows ++ [] ∷ [])
stored_behind [] stored = (All-nil AreStorable, tt)
stored_behind (r ∷ rs) stored = (stored.0, stored_behind rs stored.1)

pub stored_without : (gone : List ℕ) (tables : List Table) (rows : Instance) → AreStored rows → AreStored (without_rows gone tables rows)
stored_without gone [] rows stored = tt
stored_without gone (t ∷ ts) [] stored = tt
stored_without gone (t ∷ ts) (r ∷ rs) stored = by (same_name gone (name_of t)) (stored_without gone ts rs stored.1)
  where
    by : (b : Bool) → AreStored (without_rows gone ts rs) → AreStored (cond b (without_rows gone ts rs) (r ∷ without_rows gone ts rs))
    by true later = later
    by false later = (stored.0, later)
