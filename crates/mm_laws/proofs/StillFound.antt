-- If no remaining row refers to a key that a change deletes, each row still has its targets.
use Rattle.std.proofs.Common.{◌≡◌, ℕ, ◌+◌, Bool, true, false, cond, not, ◌&&◌, ◌⊎◌, List, [], ◌∷◌, Option, Some, None, is_none, inl, inr, find, refl, sym, ap}
use Rattle.std.proofs.Common.{subst, ◌∙◌}
use Rattle.std.specs.List.{AllByRecursion, list_any}
use Rattle.std.specs.Option.{option_map_or}
use Rattle.std.proofs.lemmas.Bool.{cases_Bool, false≢true, or_parts}
use Rattle.std.proofs.lemmas.List.Elements.{recursion_from_All}
use Rattle.mm_schema.specs.Columns.{key_place, target_of}
use Rattle.mm_schema.specs.Instance.{Instance, TableEdits, changed_instance, rows_named}
use Rattle.mm_schema.specs.Name.{same_name}
use Rattle.mm_schema.specs.References.{HasTargets, in_front, lacks_target_row, lose_targets, references_from, references_of, refers}
use Rattle.mm_schema.specs.Rows.{Pair}
use Rattle.mm_schema.specs.Schema.{Schema, columns_named, key_named, lacks_table, lacks_target}
use Rattle.mm_schema.specs.declared.column.Column.{Column}
use Rattle.mm_schema.specs.declared.table.Table.{Table}
use Rattle.mm_schema.proofs.ChangedRows.{no_other_row}
use Rattle.mm_schema.proofs.Instances.{AreBeside, edits_of_one, name_of}
use Rattle.mm_schema.proofs.NameLemmas.{differs_back, same_bytes}
use Rattle.mm_schema.proofs.References.{lacks}
use Rattle.mm_schema.proofs.StrictOrder.{AllByRecursion-IsIn, Contains-from_IsIn, IsIn, IsIn-from_Contains}
use Rattle.mm_schema.proofs.Duplicates.{Row}
use Rattle.mm_query.specs.Machine.{after_edits, is_referred_to, some_is_referred, some_lacks_target}
use Rattle.mm_query.specs.State.{State, rows_in}
use Rattle.mm_query.proofs.FoundTargets.{found_among, none_among, none_by_each, refers_still}
use Rattle.mm_laws.proofs.NamedRows.{has, rows_changed, rows_of_others}
use Rattle.mm_laws.proofs.Removals.{AreRemovals, EachRemoves}

-- ---- rows that have their targets

-- the REF columns of the table with a name
abbrev pub references_in : State → List ℕ → List (ℕ × List ℕ)
references_in state name = references_of (columns_named name state.schema)

-- A row refers by a column to one of the rows of the column's target table.
abbrev pub refers_in : State → ℕ × List ℕ → Row → Bool
refers_in state r row = list_any (refers r.0 (key_named r.1 state.schema) row) (rows_in state r.1)

pub not_false : (b : Bool) → not b ≡ false → b ≡ true
not_false true e = refl
not_false false e = cc

-- If no row of a table lacks its target, each row has one, ..
pub each_refers : (state : State) (name : List ℕ) → some_lacks_target name state ≡ false → (r : ℕ × List ℕ) → IsIn r (references_in state name)
    → (row : Row) → IsIn row (rows_in state name) → refers_in state r row ≡ true
each_refers state name none r column row here =
    not_false (refers_in state r row)
    (none_among (lacks_target_row r.0 (key_named r.1 state.schema) (rows_in state r.1)) (rows_in state name) row here
    (none_among (λ (q : ℕ × List ℕ). list_any (lacks_target_row q.0 (key_named q.1 state.schema) (rows_in state q.1)) (rows_in state name))
    (references_in state name) r column none))

-- .. and conversely.
pub none_lacks : (state : State) (name : List ℕ)
    → ((r : ℕ × List ℕ) → IsIn r (references_in state name) → (row : Row) → IsIn row (rows_in state name) → refers_in state r row ≡ true)
    → some_lacks_target name state ≡ false
none_lacks state name each =
    none_by_each (λ (q : ℕ × List ℕ). list_any (lacks_target_row q.0 (key_named q.1 state.schema) (rows_in state q.1)) (rows_in state name))
    (references_in state name)
    (λ r column. none_by_each (lacks_target_row r.0 (key_named r.1 state.schema) (rows_in state r.1)) (rows_in state name)
    (λ row here. ap not (each r column row here)))

pub no_row_lacks : (state : State) (name : List ℕ) → rows_in state name ≡ [] → some_lacks_target name state ≡ false
no_row_lacks state name none =
    none_by_each (λ (q : ℕ × List ℕ). list_any (lacks_target_row q.0 (key_named q.1 state.schema) (rows_in state q.1)) (rows_in state name))
    (references_in state name) (λ r column. ap (list_any (lacks_target_row r.0 (key_named r.1 state.schema) (rows_in state r.1))) none)

-- A table that keeps its columns and rows has all targets in a new state, if each row has them there.
pub found_again : (old new : State) (name : List ℕ) → columns_named name new.schema ≡ columns_named name old.schema → rows_in new name ≡ rows_in old name
    → ((r : ℕ × List ℕ) → IsIn r (references_in old name) → (row : Row) → IsIn row (rows_in old name) → refers_in old r row ≡ true
    → refers_in new r row ≡ true)
    → some_lacks_target name old ≡ false → some_lacks_target name new ≡ false
found_again old new name columns rows again none =
    none_lacks new name (λ r column row here.
    let column_before : IsIn r (references_in old name) = subst (λ cs. IsIn r (references_of cs)) columns column in
    let row_before : IsIn row (rows_in old name) = subst (λ rs. IsIn row rs) rows here in
    again r column_before row row_before (each_refers old name none r column_before row row_before))

-- This holds if the target tables keep their keys and rows.
pub same_target : (old new : State) (r : ℕ × List ℕ) (row : Row) → key_named r.1 new.schema ≡ key_named r.1 old.schema → rows_in new r.1 ≡ rows_in old r.1
    → refers_in old r row ≡ true → refers_in new r row ≡ true
same_target old new r row key rows is = (λ i. list_any (refers r.0 (key i) row) (rows i)) ∙ is

-- ---- columns that refer to tables

module _ (test : List ℕ → Bool) where
  -- If no target of columns passes a test, none of their references does.
  pub fails_of_each : (n : ℕ) (columns : List Column) → list_any (λ c. option_map_or test (target_of c) false) columns ≡ false
      → (r : ℕ × List ℕ) → IsIn r (references_from n columns) → test r.1 ≡ false
  fails_of_each n [] none r among = absurd among
  fails_of_each n (c ∷ cs) none r among =
      let parts = or_parts (option_map_or test (target_of c) false) (list_any (λ d. option_map_or test (target_of d) false) cs) none in
      by (target_of c) parts.0 (fails_of_each (n + 1) cs parts.1 r) among
    where
      by : (target : Option (List ℕ)) → option_map_or test target false ≡ false → (IsIn r (references_from (n + 1) cs) → test r.1 ≡ false)
          → IsIn r (in_front n target (references_from (n + 1) cs)) → test r.1 ≡ false
      by None fails later among = later among
      by (Some name) fails later (inl same) = ap (λ (q : ℕ × List ℕ). test q.1) (sym same) ∙ fails
      by (Some name) fails later (inr rest) = later rest

-- A column of the table with a name is one of some table that has it.
pub column_of : (name : List ℕ) (ts : List Table) (r : ℕ × List ℕ) (found : Option Table) → find (has name) ts ≡ found
    → IsIn r (references_of (option_map_or (λ (t : Table). t.definition.columns) found []))
    → (t : Table) × IsIn t ts × (has name t ≡ true) × IsIn r (references_of t.definition.columns)
column_of name ts r None is column = absurd column
column_of name ts r (Some t) is column = let there = found_among (has name) ts t is in (t, there.0, there.1, column)

-- If columns have targets, the target tables exist.
pub target_there : (schema : Schema) → HasTargets schema → (name : List ℕ) (r : ℕ × List ℕ) → IsIn r (references_of (columns_named name schema))
    → lacks_table r.1 schema ≡ false
target_there schema targets name r column =
    let found = column_of name schema.tables r (find (has name) schema.tables) refl column in
    fails_of_each (λ n. lacks_table n schema) 0 found.0.definition.columns
    (AllByRecursion-IsIn (λ (t : Table). list_any (lacks_target schema) t.definition.columns ≡ false) schema.tables found.0
    (recursion_from_All _ schema.tables targets) found.1)
    r found.3

-- ---- edits of several tables

-- no row of any table lacks a target
abbrev pub AllFindTargets : State → Type 0
AllFindTargets state = (name : List ℕ) → some_lacks_target name state ≡ false

pub beside_still : (ts : List Table) (es : List TableEdits) (rows : Instance) → AreBeside ts rows → AreBeside ts (changed_instance ts es rows)
beside_still [] es [] beside = tt
beside_still (t ∷ ts) es (r ∷ rs) beside = beside_still ts es rs beside
beside_still [] es (r ∷ rs) beside = absurd beside
beside_still (t ∷ ts) es [] beside = absurd beside

pub no_rows_lacking : (name : List ℕ) (ts : List Table) (rows : Instance) → lacks name ts ≡ true → rows_named name ts rows ≡ []
no_rows_lacking name [] [] none = refl
no_rows_lacking name [] (r ∷ rs) none = refl
no_rows_lacking name (t ∷ ts) [] none = refl
no_rows_lacking name (t ∷ ts) (r ∷ rs) none = by (has name t) none (no_rows_lacking name ts rs)
  where
    by : (b : Bool) → is_none (cond b (Some t) (find (has name) ts)) ≡ true → (lacks name ts ≡ true → rows_named name ts rs ≡ [])
        → cond b r (rows_named name ts rs) ≡ []
    by true none later = absurd (false≢true none)
    by false none later = later none

-- The edits are of another table than this, or are deletions.
abbrev pub AddsNone : List ℕ → TableEdits → Type 0
AddsNone name e = (same_name e.table name ≡ false) ⊎ AreRemovals e.pairs

-- Deletions alone add no rows.
pub adds_none : (name : List ℕ) (es : List TableEdits) → EachRemoves es → AllByRecursion (AddsNone name) es
adds_none name [] each = tt
adds_none name (e ∷ es) each = (inr each.0, adds_none name es each.1)

module _ (ts : List Table) (name : List ℕ) where
  -- A remaining row of a table was there before.
  pub was_there : (e : TableEdits) (rows : Instance) → AreBeside ts rows → AddsNone name e → (row : Row)
      → IsIn row (rows_named name ts (changed_instance ts (e ∷ []) rows)) → IsIn row (rows_named name ts rows)
  was_there e rows beside (inl other) row here =
      subst (IsIn row) (rows_of_others e.table e.pairs name other ts rows) here
  was_there e rows beside (inr removals) row here = elim (cases_Bool (same_name e.table name)) [
    | inr other ↦ subst (IsIn row) (rows_of_others e.table e.pairs name other ts rows) here
    | inl own ↦
        let to : e.table ≡ name = same_bytes e.table name own in
        elim (cases_Bool (lacks e.table ts)) [
          | inl none ↦ absurd (subst (IsIn row) (ap (λ n. rows_named n ts (changed_instance ts (e ∷ []) rows)) (sym to)
              ∙ no_rows_lacking e.table ts (changed_instance ts (e ∷ []) rows) none) here)
          | inr there ↦
              let now = subst (λ n. IsIn row (rows_named n ts (changed_instance ts (e ∷ []) rows))) (sym to) here in
              let changed_now = subst (IsIn row) (rows_changed e.table e.pairs ts rows beside there) now in
              elim (no_other_row (option_map_or (λ (t : Table). key_place t.definition.columns) (find (has e.table) ts) 0) e.pairs
              (rows_named e.table ts rows) row
              (Contains-from_IsIn _ row changed_now)) [
                | inl come ↦
                    let none : ◌≡◌ {A = Option Row} (Some row) None =
                    AllByRecursion-IsIn (λ (p : Pair). p.1 ≡ None) e.pairs (come.0, Some row) removals
                    (IsIn-from_Contains {X = Pair} e.pairs (come.0, Some row) come.1) in
                    absurd (let b : ⊥ = cc in b)
                | inr stay ↦ subst (λ n. IsIn row (rows_named n ts rows)) to (IsIn-from_Contains (rows_named e.table ts rows) row stay.0)
              ]
        ]
  ]

  pub were_there : (es : List TableEdits) (rows : Instance) → AreBeside ts rows → AllByRecursion (AddsNone name) es → (row : Row)
      → IsIn row (rows_named name ts (after_edits ts es rows)) → IsIn row (rows_named name ts rows)
  were_there [] rows beside none row here = here
  were_there (e ∷ es) rows beside none row here =
      was_there e rows beside none.0 row
      (were_there es (changed_instance ts (e ∷ []) rows) (beside_still ts (e ∷ []) rows beside) none.1 row here)

-- A remaining row still refers to a row of a table, if no edits of that table delete a key that one of these rows refers to.
module _ (schema : Schema) (name : List ℕ) (there : lacks_table name schema ≡ false) (column : ℕ) (rows : List Row) (row : Row) (here : IsIn row rows) where
  abbrev KeepsKeys : TableEdits → Type 0
  KeepsKeys e = same_name name e.table ≡ true → lose_targets column (key_named name schema) rows e.pairs ≡ false

  refers_through_one : (e : TableEdits) (all : Instance) → AreBeside schema.tables all → KeepsKeys e
      → list_any (refers column (key_named name schema) row) (rows_named name schema.tables all) ≡ true
      → list_any (refers column (key_named name schema) row) (rows_named name schema.tables (changed_instance schema.tables (e ∷ []) all)) ≡ true
  refers_through_one e all beside keeps some = elim (cases_Bool (same_name name e.table)) [
    | inl own ↦
        let to : name ≡ e.table = same_bytes name e.table own in
        ap (list_any (refers column (key_named name schema) row))
        (ap (λ n. rows_named name schema.tables (changed_instance schema.tables (edits_of_one n e.pairs) all)) (sym to)
        ∙ rows_changed name e.pairs schema.tables all beside there)
        ∙ refers_still column (key_named name schema) rows (rows_named name schema.tables all) e.pairs row here (keeps own) some
    | inr other ↦
        ap (list_any (refers column (key_named name schema) row)) (rows_of_others e.table e.pairs name (differs_back name e.table other) schema.tables all)
        ∙ some
  ]

  pub refers_through : (es : List TableEdits) (all : Instance) → AreBeside schema.tables all → AllByRecursion KeepsKeys es
      → list_any (refers column (key_named name schema) row) (rows_named name schema.tables all) ≡ true
      → list_any (refers column (key_named name schema) row) (rows_named name schema.tables (after_edits schema.tables es all)) ≡ true
  refers_through [] all beside keeps some = some
  refers_through (e ∷ es) all beside keeps some =
      refers_through es (changed_instance schema.tables (e ∷ []) all) (beside_still schema.tables (e ∷ []) all beside) keeps.1
      (refers_through_one e all beside keeps.0 some)

-- Another table loses no key that rows refer to after the change.
keys_stay : (e : TableEdits) (after : State) → is_referred_to after e ≡ false → (name : List ℕ) (r : ℕ × List ℕ)
    → IsIn r (references_in after name) → same_name r.1 e.table ≡ true → lose_targets r.0 (key_named e.table after.schema) (rows_in after name) e.pairs ≡ false
keys_stay e after none name r column own =
    let found = column_of name after.schema.tables r (find (has name) after.schema.tables) refl column in
    let loses = λ (n : List ℕ) (q : ℕ × List ℕ).
    same_name q.1 e.table && lose_targets q.0 (key_named e.table after.schema) (rows_in after n) e.pairs in
    let of_table : loses (name_of found.0) r ≡ false =
    none_among (loses (name_of found.0)) (references_of found.0.definition.columns) r found.3
    (none_among (λ (t : Table). list_any (loses (name_of t)) (references_of t.definition.columns)) after.schema.tables found.0 found.1 none) in
    sym (ap (λ b. b && lose_targets r.0 (key_named e.table after.schema) (rows_in after name) e.pairs) own)
    ∙ ap (λ n. loses n r) (same_bytes name (name_of found.0) found.2)
    ∙ of_table

each_keeps : (es : List TableEdits) (after : State) → some_is_referred es after ≡ false → (name : List ℕ) (r : ℕ × List ℕ) → IsIn r (references_in after name)
    → AllByRecursion (λ (e : TableEdits). same_name r.1 e.table ≡ true → lose_targets r.0 (key_named r.1 after.schema) (rows_in after name) e.pairs ≡ false) es
each_keeps [] after none name r column = tt
each_keeps (e ∷ es) after none name r column =
    let p = or_parts (is_referred_to after e) (list_any (is_referred_to after) es) none in (
      λ own.
          ap (λ n. lose_targets r.0 (key_named n after.schema) (rows_in after name) e.pairs) (same_bytes r.1 e.table own)
          ∙ keys_stay e after p.0 name r column own,
      each_keeps es after p.1 name r column,
    )

module _ (es : List TableEdits) (own : List ℕ) (state : State) (beside : AreBeside state.schema.tables state.rows) (targets : HasTargets state.schema)
    (adds : (name : List ℕ) → same_name own name ≡ false → AllByRecursion (AddsNone name) es) where
  abbrev after : State
  after = record state { rows = after_edits state.schema.tables es state.rows }

  -- After edits that insert rows only into one table, all rows have their targets if those of that table do.
  pub found_after : some_is_referred es after ≡ false → some_lacks_target own after ≡ false → AllFindTargets state → AllFindTargets after
  found_after referred own_found found name = elim (cases_Bool (same_name own name)) [
    | inl same ↦ subst (λ n. some_lacks_target n after ≡ false) (same_bytes own name same) own_found
    | inr other ↦
        none_lacks after name (λ r column row here.
        refers_through state.schema r.1 (target_there state.schema targets name r column) r.0 (rows_in after name) row here es state.rows beside
        (each_keeps es after referred name r column)
        (each_refers state name (found name) r column row
        (were_there state.schema.tables name es state.rows beside (adds name other) row here)))
  ]
