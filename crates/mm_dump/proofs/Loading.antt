-- The INSERT commands of a dump insert the rows of its tables.
use Rattle.std.proofs.Common.{◌≡◌, ◌≤◌, ℕ, Bool, true, false, cond, not, ◌&&◌, ltb, List, [], ◌∷◌, ◌++◌, Option, Some, None, is_none, length, map}
use Rattle.std.proofs.Common.{inl, inr, refl, sym, ap, ◌∙◌}
use Rattle.std.proofs.Common.{subst, append_assoc, append-nil, length-append, arith}
use Rattle.std.specs.List.{AllByRecursion, AllZip, flat_map, list_any}
use Rattle.std.specs.Option.{option_map_or}
use Rattle.std.proofs.lemmas.Bool.{eq-eqb, le-ltb, or_from}
use Rattle.std.proofs.lemmas.List.{map-append}
use Rattle.std.proofs.lemmas.List.Elements.{recursion_from_All}
use Rattle.std.proofs.lemmas.List.Sorted.{IsPermutation-refl}
use Rattle.mm_value.specs.declared.col_type.ColType.{ColType}
use Rattle.mm_value.specs.declared.col_type.ColType.TheVariants as type
use Rattle.mm_value.specs.declared.refusal.Refusal.TheVariants.{DuplicateKey, NoSuchTable, NoTargetRow, RowIsReferenced, TableFull, TypeMismatch}
use Rattle.mm_value.specs.declared.refusal.Refusal.TheVariants.{WrongNumberOfValues}
use Rattle.mm_value.specs.declared.values.Value.{Value}
use Rattle.mm_schema.specs.Columns.{key_place, same_type}
use Rattle.mm_schema.specs.Instance.{AreInKeyOrder, Instance}
use Rattle.mm_schema.specs.Name.{same_name}
use Rattle.mm_schema.specs.References.{RefersBack, lose_targets, references_of}
use Rattle.mm_schema.specs.Refused.{first_refusal}
use Rattle.mm_schema.specs.Rows.{IsInKeyOrder, additions, has_duplicate_keys, most_rows}
use Rattle.mm_schema.specs.Schema.{columns_named, key_named, lacks_table, table_passes}
use Rattle.mm_schema.specs.declared.column.Column.{Column}
use Rattle.mm_schema.specs.declared.table.Table.{Table}
use Rattle.mm_schema.proofs.ChangedRows.{changed-additions}
use Rattle.mm_schema.proofs.Duplicates.{Row, column_cmp_total, no_duplicates_in_order}
use Rattle.mm_schema.proofs.Instances.{AreBeside, edits_of_one, name_of}
use Rattle.mm_schema.proofs.StrictOrder.{AllByRecursion-IsIn, AllByRecursion-append_left, AllByRecursion-append_right, IsIn, IsStrictlySortedBy-append_left}
use Rattle.mm_query.specs.Binding.{binding_conditions, has_other_length, has_type_mismatch}
use Rattle.mm_query.specs.Edits.{edits, value_conditions}
use Rattle.mm_query.specs.Machine.{after_all, after_change, change_conditions, row_conditions, some_is_referred, some_lacks_target, step}
use Rattle.mm_query.specs.Standing.{growth_conditions}
use Rattle.mm_query.specs.State.{State, rows_in}
use Rattle.mm_query.specs.declared.command.Command.TheVariants as command
use Rattle.mm_query.specs.declared.command.Mutation.{Mutation}
use Rattle.mm_query.specs.declared.command.Mutation.TheVariants as change
use Rattle.mm_query.proofs.FoundTargets.{none_by_each}
use Rattle.mm_laws.specs.Typing.{AreTyped, HasTypes}
use Rattle.mm_laws.proofs.StillFound.{each_refers, none_lacks, references_in, same_target}
use Rattle.mm_dump.specs.Dumps.{AreGroups, Groups, rows_entries}
use Rattle.mm_dump.proofs.Restorable.{state_of}
use Rattle.mm_dump.specs.Entries as entry
use Rattle.mm_dump.specs.Entries.{entry_command}
use Rattle.mm_dump.proofs.Creating.{after_both, commands_of, no_rows, step_done}
use Rattle.mm_dump.proofs.Found.{AreDistinct, changed_here, found_here, rows_found_before, rows_found_here}

-- ---- rows of the types of columns

same_type_refl : (t : ColType) → same_type t t ≡ true
same_type_refl type.Int = refl
same_type_refl type.Text = refl

typed_fits : (columns : List Column) (row : List Value) → HasTypes columns row → (has_type_mismatch columns row ≡ false) × (length row ≡ length columns)
typed_fits [] [] typed = (refl, refl)
typed_fits (c ∷ cs) (v ∷ vs) typed =
    let later = typed_fits cs vs typed.1 in
    (or_from _ _ (ap not (ap (same_type c.col_type) typed.0 ∙ same_type_refl c.col_type)) later.0, omega (arith, later.1))
typed_fits [] (v ∷ vs) typed = absurd typed
typed_fits (c ∷ cs) [] typed = absurd typed

-- Typed rows are refused neither for a type nor for a length.
all_fit : (columns : List Column) (rows : List Row) → AllByRecursion (HasTypes columns) rows
    → (list_any (has_type_mismatch columns) rows ≡ false) × (list_any (has_other_length columns) rows ≡ false)
all_fit columns [] all = (refl, refl)
all_fit columns (r ∷ rs) all =
    let here = typed_fits columns r all.0 in
    let later = all_fit columns rs all.1 in
    (or_from _ _ here.0 later.0, or_from _ _ (ap not (eq-eqb (length r) (length columns) here.1)) later.1)

-- ---- rows that are inserted

in_longer : (xs ys : List Row) (row : Row) → IsIn row xs → IsIn row (xs ++ ys)
in_longer [] ys row here = absurd here
in_longer (x ∷ xs) ys row (inl same) = inl same
in_longer (x ∷ xs) ys row (inr later) = inr (in_longer xs ys row later)

no_losses : (column key : ℕ) (rows group : List Row) → lose_targets column key rows (additions group) ≡ false
no_losses column key rows [] = refl
no_losses column key rows (g ∷ gs) = no_losses column key rows gs

neither : (a b : Bool) → b ≡ false → (a && b) ≡ false
neither true b none = none
neither false b none = refl

-- Inserted rows remove no key.
none_referred : (name : List ℕ) (group : List Row) (state : State) → some_is_referred (edits_of_one name (additions group)) state ≡ false
none_referred name group state =
    or_from _ _
    (none_by_each _ state.schema.tables
    (λ t here. none_by_each _ (references_of t.definition.columns)
    (λ r among. neither (same_name r.1 name) _ (no_losses r.0 (key_named name state.schema) (rows_in state (name_of t)) group))))
    refl

-- ---- the rows of one table

module _ (front : List Table) (t : Table) (behind : List Table) (done : Instance) (rows : List Row) (others : Instance)
    (distinct : AreDistinct (front ++ t ∷ behind)) (beside : AreBeside front done) (order : IsInKeyOrder (key_place t.definition.columns) rows)
    (typed : AllByRecursion (HasTypes t.definition.columns) rows) (small : length rows ≤ most_rows)
    (back : AllByRecursion (λ (r : ℕ × List ℕ). list_any (same_name r.1) (map name_of front) ≡ true) (references_of t.definition.columns))
    (found : some_lacks_target (name_of t) (state_of (front ++ t ∷ behind) (done ++ rows ∷ others)) ≡ false)
    (rest : Instance) (beside_rest : AreBeside behind rest) where
  abbrev tables : List Table
  tables = front ++ t ∷ behind

  abbrev key : ℕ
  key = key_place t.definition.columns

  abbrev final : State
  final = state_of tables (done ++ rows ∷ others)

  -- the state with some rows of the table
  abbrev having : List Row → State
  having some = state_of tables (done ++ some ∷ rest)

  rows_are : (some : List Row) → rows_in (having some) (name_of t) ≡ some
  rows_are some = rows_found_here front t behind distinct done some rest beside

  columns_are : columns_named (name_of t) final.schema ≡ t.definition.columns
  columns_are = ap (λ (o : Option Table). option_map_or (λ (u : Table). u.definition.columns) o []) (found_here front t behind distinct)

  key_is : key_named (name_of t) final.schema ≡ key
  key_is = ap (λ (o : Option Table). option_map_or (λ (u : Table). key_place u.definition.columns) o 0) (found_here front t behind distinct)

  -- Tables that are referred to have all of their rows already.
  targets_are : (some : List Row) (r : ℕ × List ℕ) → IsIn r (references_in final (name_of t)) → rows_in (having some) r.1 ≡ rows_in final r.1
  targets_are some r column =
      let older : list_any (same_name r.1) (map name_of front) ≡ true =
      AllByRecursion-IsIn (λ (q : ℕ × List ℕ). list_any (same_name q.1) (map name_of front) ≡ true) (references_of t.definition.columns) r back
      (subst (λ cs. IsIn r (references_of cs)) columns_are column) in
      rows_found_before r.1 front (t ∷ behind) done (some ∷ rest) beside older
      ∙ sym (rows_found_before r.1 front (t ∷ behind) done (rows ∷ others) beside older)

  module _ (before group left : List Row) (whole : rows ≡ (before ++ group) ++ left) where
    abbrev mutation : Mutation
    mutation = change.Insert (name_of t) group

    order_both : IsInKeyOrder key (before ++ group)
    order_both = IsStrictlySortedBy-append_left (column_cmp_total key) (before ++ group) left (subst (IsInKeyOrder key) whole order)

    after_is : after_change mutation (having before) ≡ having (before ++ group)
    after_is =
        ap (state_of tables) (changed_here front t behind distinct (additions group) done before rest beside beside_rest
        ∙ ap (λ (l : List Row). done ++ l ∷ rest)
        (changed-additions key group before (before ++ group) (IsStrictlySortedBy-append_left (column_cmp_total key) before group order_both)
        (IsPermutation-refl (before ++ group)) order_both))

    typed_group : AllByRecursion (HasTypes t.definition.columns) group
    typed_group =
        AllByRecursion-append_right (HasTypes t.definition.columns) before group
        (AllByRecursion-append_left (HasTypes t.definition.columns) (before ++ group) left (subst (AllByRecursion (HasTypes t.definition.columns)) whole typed))

    lacking : lacks_table (name_of t) final.schema ≡ false
    lacking = ap (λ (o : Option Table). is_none o) (found_here front t behind distinct)

    passing : (test : Table → Bool) → test t ≡ false → table_passes test (name_of t) final.schema ≡ false
    passing test fails = ap (λ (o : Option Table). option_map_or test o false) (found_here front t behind distinct) ∙ fails

    duplicate : has_duplicate_keys (key_named (name_of t) final.schema) (rows_in (having (before ++ group)) (name_of t)) ≡ false
    duplicate =
        (λ i. has_duplicate_keys (key_is i) (rows_are (before ++ group) i)) ∙ no_duplicates_in_order key (before ++ group) order_both

    lost : some_lacks_target (name_of t) (having (before ++ group)) ≡ false
    lost =
        none_lacks (having (before ++ group)) (name_of t) (λ r column row here.
        let in_rows : IsIn row rows =
        subst (IsIn row) (sym whole) (in_longer (before ++ group) left row (subst (IsIn row) (rows_are (before ++ group)) here)) in
        let in_final : IsIn row (rows_in final (name_of t)) =
        subst (IsIn row) (sym (rows_found_here front t behind distinct done rows others beside)) in_rows in
        same_target final (having (before ++ group)) r row refl (targets_are (before ++ group) r column)
        (each_refers final (name_of t) found r column row in_final))

    full : ltb most_rows (length (rows_in (having (before ++ group)) (name_of t))) ≡ false
    full =
        ap (λ (l : List Row). ltb most_rows (length l)) (rows_are (before ++ group))
        ∙ le-ltb most_rows (length (before ++ group)) (omega (arith, ap length whole, length-append (before ++ group) left, small))

    due : first_refusal (change_conditions mutation (having before)) ≡ None
    due =
        let es = edits mutation (having before) in
        let referred : some_is_referred es (having (before ++ group)) ≡ false = none_referred (name_of t) group (having (before ++ group)) in
        let mismatch : table_passes (λ u. list_any (has_type_mismatch u.definition.columns) group) (name_of t) final.schema ≡ false =
        passing (λ u. list_any (has_type_mismatch u.definition.columns) group) (all_fit t.definition.columns group typed_group).0 in
        let other : table_passes (λ u. list_any (has_other_length u.definition.columns) group) (name_of t) final.schema ≡ false =
        passing (λ u. list_any (has_other_length u.definition.columns) group) (all_fit t.definition.columns group typed_group).1 in
        ap (λ (a : State). first_refusal (binding_conditions mutation final.schema ++ (value_conditions mutation (having before)
        ++ (row_conditions (name_of t) es a ++ growth_conditions a)))) after_is
        ∙ (λ i. cond (lacking i) (Some NoSuchTable) (cond (mismatch i) (Some TypeMismatch) (cond (other i) (Some WrongNumberOfValues)
        (cond (duplicate i) (Some DuplicateKey) (cond (lost i) (Some NoTargetRow) (cond (referred i) (Some RowIsReferenced)
        (cond (full i) (Some TableFull) None)))))))

    inserted : (step (command.Change mutation) (having before)).state ≡ having (before ++ group)
    inserted = step_done (command.Change mutation) (having before) due ∙ after_is

  -- Groups one after another.
  pub groups_inserted : (before : List Row) (groups : Groups) → rows ≡ before ++ flat_map (λ (group : List Row). group) groups
      → after_all (commands_of (map (entry.Rows (name_of t)) groups)) (having before) ≡ having rows
  groups_inserted before [] whole = ap having (sym (whole ∙ append-nil before))
  groups_inserted before (g ∷ gs) whole =
      let left = flat_map (λ (group : List Row). group) gs in
      let next : rows ≡ (before ++ g) ++ left = whole ∙ sym (append_assoc before g left) in
      ap (after_all (commands_of (map (entry.Rows (name_of t)) gs))) (inserted before g left next) ∙ groups_inserted (before ++ g) gs next

-- ---- the rows of all tables

beside_push : (front : List Table) (done : Instance) (t : Table) (rows : List Row) → AreBeside front done → AreBeside (front ++ t ∷ []) (done ++ rows ∷ [])
beside_push [] [] t rows beside = tt
beside_push (f ∷ fs) (d ∷ ds) t rows beside = beside_push fs ds t rows beside
beside_push [] (d ∷ ds) t rows beside = absurd beside
beside_push (f ∷ fs) [] t rows beside = absurd beside

beside_none : (tables : List Table) → AreBeside tables (no_rows tables)
beside_none [] = tt
beside_none (t ∷ ts) = beside_none ts

-- Rows are inserted into tables without rows, after tables that have theirs.
pub loaded : (front tables : List Table) (done rows : Instance) (groups : List Groups) → AreDistinct (front ++ tables) → AreBeside front done
    → AreInKeyOrder tables rows → AreTyped tables rows → AllByRecursion (λ (l : List Row). length l ≤ most_rows) rows
    → RefersBack (map name_of front) tables
    → ((name : List ℕ) → some_lacks_target name (state_of (front ++ tables) (done ++ rows)) ≡ false)
    → AllZip AreGroups rows groups
    → after_all (commands_of (rows_entries tables groups)) (state_of (front ++ tables) (done ++ no_rows tables)) ≡ state_of (front ++ tables) (done ++ rows)
loaded front [] done [] groups distinct beside order typed small back found zip = refl
loaded front (t ∷ ts) done (r ∷ rs) (g ∷ gs) distinct beside order typed small back found zip =
    let start = state_of (front ++ t ∷ ts) (done ++ [] ∷ no_rows ts) in
    let one = map (entry.Rows (name_of t)) g in
    let others = rows_entries ts gs in
    let inserted : after_all (commands_of one) start ≡ state_of (front ++ t ∷ ts) (done ++ r ∷ no_rows ts) =
    groups_inserted front t ts done r rs distinct beside order.0 (recursion_from_All (HasTypes t.definition.columns) r typed.0) small.0 back.0
    (found (name_of t)) (no_rows ts) (beside_none ts) [] g (sym zip.0.whole) in
    let tables_are : (front ++ t ∷ []) ++ ts ≡ front ++ t ∷ ts = append_assoc front (t ∷ []) ts in
    ap (λ cs. after_all cs start) (map-append entry_command one others) ∙ after_both (commands_of one) (commands_of others) start
    ∙ ap (after_all (commands_of others)) (inserted ∙ (λ i. state_of (sym tables_are i) (sym (append_assoc done (r ∷ []) (no_rows ts)) i)))
    ∙ loaded (front ++ t ∷ []) ts (done ++ r ∷ []) rs gs (subst AreDistinct (sym tables_are) distinct) (beside_push front done t r beside)
    order.1 typed.1 small.1 (subst (λ names. RefersBack names ts) (sym (map-append name_of front (t ∷ []))) back.1)
    (λ name. (λ i. some_lacks_target name (state_of (tables_are i) (append_assoc done (r ∷ []) rs i))) ∙ found name) zip.1
    ∙ (λ i. state_of (tables_are i) (append_assoc done (r ∷ []) rs i))
loaded front (t ∷ ts) done (r ∷ rs) [] distinct beside order typed small back found zip = absurd zip
loaded front [] done (r ∷ rs) groups distinct beside order typed small back found zip = absurd order
loaded front (t ∷ ts) done [] groups distinct beside order typed small back found zip = absurd order
