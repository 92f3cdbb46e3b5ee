-- Dumps restore tables, rows and indexes.
use Rattle.std.proofs.Common.{◌≡◌, ◌≤◌, ℕ, false, List, [], ◌∷◌, ◌++◌, length, map, refl, sym, ap, ◌∙◌, subst, append_assoc, append-nil}
use Rattle.std.specs.List.{AllZip, IsDistinct}
use Rattle.std.proofs.lemmas.List.{map-append}
use Rattle.std.proofs.lemmas.List.Elements.{recursion_from_All}
use Rattle.mm_schema.specs.Columns.{key_place}
use Rattle.mm_schema.specs.Indexes.{HasOwnIndexes}
use Rattle.mm_schema.specs.Instance.{Instance}
use Rattle.mm_schema.specs.Name.{same_name}
use Rattle.mm_schema.specs.References.{RefersBack}
use Rattle.mm_schema.specs.Rows.{most_rows}
use Rattle.mm_schema.specs.declared.table.Table.{Table}
use Rattle.mm_schema.proofs.Duplicates.{Row}
use Rattle.mm_schema.proofs.Instances.{AreInKeyOrder-kept, IsDistinct-push, name_of, names_kept}
use Rattle.mm_schema.proofs.Places.{new_name_is_free}
use Rattle.mm_query.specs.Machine.{after_all, some_lacks_target}
use Rattle.mm_query.specs.State.{first_state}
use Rattle.mm_laws.proofs.NamedRows.{rows_kept, told_kept}
use Rattle.mm_laws.proofs.OlderTables.{older_with_table}
use Rattle.mm_laws.proofs.StillFound.{found_again, same_target}
use Rattle.mm_laws.proofs.TypedTables.{typed_kept}
use Rattle.mm_dump.specs.Dumps.{AreGroups, Groups, index_entries, rows_entries}
use Rattle.mm_dump.proofs.Restorable.{AreCreatable, AreRestorable, HasIndexLimits, IsTablesDump, state_of}
use Rattle.mm_dump.specs.Dumps.{table_entries}
use Rattle.mm_dump.proofs.Restorable.{without_indexes}
use Rattle.mm_dump.specs.Entries.{Entry, entry_command}
use Rattle.mm_dump.specs.Entries as entry
use Rattle.mm_dump.proofs.Creating.{after_both, bare, commands_of, created, no_rows}
use Rattle.mm_dump.proofs.Found.{AreDistinct}
use Rattle.mm_dump.proofs.Indexing.{all_indexed}
use Rattle.mm_dump.proofs.Loading.{loaded}

-- ---- properties of tables that can be created

none_distinct : AreDistinct []
unfolding IsDistinct
none_distinct = tt

creatable_distinct : (earlier tables : List Table) → AreCreatable earlier tables → AreDistinct (bare earlier) → AreDistinct (bare (earlier ++ tables))
creatable_distinct earlier [] creatable distinct = subst (λ l. AreDistinct (bare l)) (sym (append-nil earlier)) distinct
creatable_distinct earlier (t ∷ ts) creatable distinct =
    let schema = (state_of (bare earlier) []).schema in
    let one : AreDistinct (bare (earlier ++ t ∷ [])) =
    subst AreDistinct (sym (map-append without_indexes earlier (t ∷ [])))
    (IsDistinct-push (without_indexes t) (bare earlier) (new_name_is_free t.definition schema creatable.0) distinct) in
    subst (λ l. AreDistinct (bare l)) (append_assoc earlier (t ∷ []) ts) (creatable_distinct (earlier ++ t ∷ []) ts creatable.1 one)

creatable_refers_back : (earlier tables : List Table) → AreCreatable earlier tables → RefersBack [] (bare earlier) → RefersBack [] (bare (earlier ++ tables))
creatable_refers_back earlier [] creatable back = subst (λ l. RefersBack [] (bare l)) (sym (append-nil earlier)) back
creatable_refers_back earlier (t ∷ ts) creatable back =
    let schema = (state_of (bare earlier) []).schema in
    let one : RefersBack [] (bare (earlier ++ t ∷ [])) =
    subst (RefersBack []) (sym (map-append without_indexes earlier (t ∷ []))) (older_with_table t.definition schema creatable.0 back) in
    subst (λ l. RefersBack [] (bare l)) (append_assoc earlier (t ∷ []) ts) (creatable_refers_back (earlier ++ t ∷ []) ts creatable.1 one)

-- ---- without indexes

rows_entries_bare : (tables : List Table) (groups : List Groups) → rows_entries (bare tables) groups ≡ rows_entries tables groups
rows_entries_bare [] groups = refl
rows_entries_bare (t ∷ ts) [] = refl
rows_entries_bare (t ∷ ts) (g ∷ gs) = ap (λ l. map (entry.Rows (name_of t)) g ++ l) (rows_entries_bare ts gs)

module _ (tables : List Table) (rows : Instance) (restorable : AreRestorable tables rows) where
  bare_targets : (name : List ℕ) → some_lacks_target name (state_of (bare tables) rows) ≡ false
  bare_targets name =
      found_again (state_of tables rows) (state_of (bare tables) rows) name
      (told_kept without_indexes (λ t. refl) name (λ d. d.columns) [] tables)
      (rows_kept without_indexes (λ t. refl) name tables rows)
      (λ r column row here is.
      same_target (state_of tables rows) (state_of (bare tables) rows) r row
      (told_kept without_indexes (λ t. refl) r.1 (λ d. key_place d.columns) 0 tables) (rows_kept without_indexes (λ t. refl) r.1 tables rows) is)
      (restorable.targets name)

  abbrev distinct : AreDistinct (bare tables)
  distinct = creatable_distinct [] tables restorable.creatable none_distinct

  -- The TABLE and INSERT commands of a dump restore tables and rows.
  rows_restored : (groups : List Groups) → AllZip AreGroups rows groups
      → after_all (commands_of (table_entries tables ++ rows_entries tables groups)) first_state ≡ state_of (bare tables) rows
  rows_restored groups zip =
      ap (λ cs. after_all cs first_state) (map-append entry_command (table_entries tables) (rows_entries tables groups))
      ∙ after_both (commands_of (table_entries tables)) (commands_of (rows_entries tables groups)) first_state
      ∙ ap (after_all (commands_of (rows_entries tables groups))) (created [] tables restorable.creatable)
      ∙ ap (λ es. after_all (commands_of es) (state_of (bare tables) (no_rows tables))) (sym (rows_entries_bare tables groups))
      ∙ ap (λ l. after_all (commands_of (rows_entries (bare tables) groups)) (state_of (bare tables) l)) (no_rows_bare tables)
      ∙ loaded [] (bare tables) [] rows groups distinct tt
      (AreInKeyOrder-kept without_indexes (λ t. refl) tables rows restorable.order)
      (typed_kept without_indexes (λ t. refl) tables rows restorable.typed)
      (recursion_from_All (λ (l : List Row). length l ≤ most_rows) rows restorable.sizes)
      (creatable_refers_back [] tables restorable.creatable tt)
      bare_targets zip
    where
      no_rows_bare : (ts : List Table) → no_rows ts ≡ no_rows (bare ts)
      no_rows_bare [] = refl
      no_rows_bare (t ∷ ts) = ap (λ l. [] ∷ l) (no_rows_bare ts)

  pub tables_restored : (entries : List Entry) → IsTablesDump tables rows entries → after_all (commands_of entries) first_state ≡ state_of tables rows
  tables_restored entries dump =
      let before = table_entries tables ++ rows_entries tables dump.0 in
      let indexes = index_entries tables in
      ap (λ es. after_all (commands_of es) first_state)
      (dump.2 ∙ sym (append_assoc (table_entries tables) (rows_entries tables dump.0) indexes))
      ∙ ap (λ cs. after_all cs first_state) (map-append entry_command before indexes)
      ∙ after_both (commands_of before) (commands_of indexes) first_state
      ∙ ap (after_all (commands_of indexes)) (rows_restored dump.0 dump.1)
      ∙ all_indexed [] tables rows (subst (IsDistinct same_name) (names_kept without_indexes (λ t. refl) tables) distinct)
      (recursion_from_All HasOwnIndexes tables restorable.in_place) (recursion_from_All HasIndexLimits tables restorable.limits) restorable.distinct
