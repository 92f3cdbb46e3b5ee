-- The INDEX commands of a dump create the indexes of its tables.
use Rattle.std.proofs.Common.{◌≡◌, Bool, true, false, cond, ◌||◌, leb, List, [], ◌∷◌, ◌++◌, Option, Some, None, find, is_none, is_some, length, map, inl, inr}
use Rattle.std.proofs.Common.{refl, sym, ap, ◌∙◌, subst, append_assoc, append-nil, length-append, arith}
use Rattle.std.specs.List.{AllByRecursion, IsDistinct, list_any}
use Rattle.std.specs.Option.{option_map_or}
use Rattle.std.proofs.lemmas.Bool.{false≢true, lt-leb}
use Rattle.std.proofs.lemmas.List.{map-append}
use Rattle.std.proofs.lemmas.List.Concat.{flat_map-append}
use Rattle.std.proofs.lemmas.List.Elements.{recursion_from_All}
use Rattle.mm_value.specs.declared.refusal.Refusal.TheVariants.{NameTaken, NoSuchColumn, NoSuchTable, TooMany}
use Rattle.mm_schema.specs.Columns.{column_place}
use Rattle.mm_schema.specs.Indexes.{HasOwnIndexes, has_duplicate_indexes, index_named, indexes_of, table_with_index}
use Rattle.mm_schema.specs.Instance.{Instance}
use Rattle.mm_schema.specs.Name.{same_name}
use Rattle.mm_schema.specs.Refused.{first_refusal}
use Rattle.mm_schema.specs.Schema.{lacks_table, table_passes}
use Rattle.mm_schema.specs.declared.index.IndexDef.{IndexDef}
use Rattle.mm_schema.specs.declared.table.Table.{Table}
use Rattle.mm_schema.proofs.DuplicateIndexes.{free_behind, is_taken, others_stay}
use Rattle.mm_schema.proofs.Instances.{LackName, name_of, names_kept}
use Rattle.mm_schema.proofs.NameLemmas.{same_name_refl}
use Rattle.mm_schema.proofs.StrictOrder.{AllByRecursion-IsIn, IsIn}
use Rattle.mm_query.specs.Machine.{after_all, conditions, state_after, step}
use Rattle.mm_query.specs.State.{State}
use Rattle.mm_query.specs.declared.command.Command.TheVariants as command
use Rattle.mm_query.specs.declared.command.Definition.TheVariants as define
use Rattle.mm_laws.proofs.NamedRows.{has}
use Rattle.mm_dump.specs.Dumps.{index_entries}
use Rattle.mm_dump.proofs.Restorable.{HasIndexLimits, state_of, without_indexes}
use Rattle.mm_dump.specs.Entries as entry
use Rattle.mm_dump.specs.Entries.{entry_command}
use Rattle.mm_dump.proofs.Creating.{after_both, bare, commands_of, step_done}
use Rattle.mm_dump.proofs.Found.{AreDistinct, found_here, lack_before, lack_behind}

-- ---- lists

in_the_middle : {X : Type 0} (xs : List X) (x : X) (ys : List X) → IsIn x (xs ++ x ∷ ys)
in_the_middle [] x ys = inl refl
in_the_middle (z ∷ xs) x ys = inr (in_the_middle xs x ys)

not_found : {X : Type 0} (p : X → Bool) (xs : List X) → list_any p xs ≡ false → is_some (find p xs) ≡ false
not_found p [] none = refl
not_found p (x ∷ xs) none = by (p x) none (not_found p xs)
  where
    by : (b : Bool) → (b || list_any p xs) ≡ false → (list_any p xs ≡ false → is_some (find p xs) ≡ false) → is_some (cond b (Some x) (find p xs)) ≡ false
    by true none later = absurd (false≢true (sym none))
    by false none later = later none

some_not_none : {X : Type 0} (o : Option X) → is_some o ≡ true → is_none o ≡ false
some_not_none None some = absurd (false≢true some)
some_not_none (Some x) some = refl

-- ---- names of indexes

-- An index in a list without duplicates has a name that none before it has.
free_before : (xs : List IndexDef) (i : IndexDef) (ys : List IndexDef) → has_duplicate_indexes (xs ++ i ∷ ys) ≡ false → is_taken i.name xs ≡ false
free_before xs i ys apart = by (is_taken i.name xs) refl
  where
    by : (b : Bool) → is_taken i.name xs ≡ b → is_taken i.name xs ≡ false
    by true taken =
        absurd (false≢true (sym (free_behind i.name xs (i ∷ ys) taken apart) ∙ ap (λ b. b || is_taken i.name ys) (same_name_refl i.name)))
    by false free = free

indexes_of-append : (xs ys : List Table) → indexes_of (xs ++ ys) ≡ indexes_of xs ++ indexes_of ys
indexes_of-append xs ys = flat_map-append (λ (t : Table). t.indexes) xs ys

none_of_bare : (tables : List Table) → indexes_of (bare tables) ≡ []
none_of_bare [] = refl
none_of_bare (t ∷ ts) = none_of_bare ts

-- ---- the indexes of one table

module _ (front : List Table) (t : Table) (behind : List Table) (rows : Instance) (distinct : AreDistinct (front ++ t ∷ behind))
    (own : AllByRecursion (λ (index : IndexDef). index.table ≡ name_of t) t.indexes) (limits : HasIndexLimits t)
    (apart : has_duplicate_indexes (indexes_of (front ++ t ∷ behind)) ≡ false) where
  -- the table with some indexes
  abbrev table_with : List IndexDef → Table
  table_with some = record t { indexes = some }

  abbrev tables_with : List IndexDef → List Table
  tables_with some = front ++ table_with some ∷ bare behind

  abbrev having : List IndexDef → State
  having some = state_of (tables_with some) rows

  still_distinct : (some : List IndexDef) → AreDistinct (tables_with some)
  still_distinct some =
      let names : map name_of (tables_with some) ≡ map name_of (front ++ t ∷ behind) =
      map-append name_of front (table_with some ∷ bare behind)
      ∙ ap (λ l. map name_of front ++ name_of t ∷ l) (names_kept without_indexes (λ u. refl) behind)
      ∙ sym (map-append name_of front (t ∷ behind)) in
      subst (IsDistinct same_name) (sym names) distinct

  module _ (before : List IndexDef) (i : IndexDef) (left : List IndexDef) (whole : t.indexes ≡ before ++ i ∷ left) where
    is_there : IsIn i t.indexes
    is_there = subst (IsIn i) (sym whole) (in_the_middle before i left)

    its_table : i.table ≡ name_of t
    its_table = AllByRecursion-IsIn (λ (index : IndexDef). index.table ≡ name_of t) t.indexes i own is_there

    found : find (has i.table) (tables_with before) ≡ Some (table_with before)
    found = ap (λ name. find (has name) (tables_with before)) its_table ∙ found_here front (table_with before) (bare behind) (still_distinct before)

    lacking : lacks_table i.table (having before).schema ≡ false
    lacking = ap (λ (o : Option Table). is_none o) found

    passing : (test : Table → Bool) → test (table_with before) ≡ false → table_passes test i.table (having before).schema ≡ false
    passing test fails = ap (λ (o : Option Table). option_map_or test o false) found ∙ fails

    column : is_none (column_place i.column t.definition.columns) ≡ false
    column =
        some_not_none (column_place i.column t.definition.columns)
        (AllByRecursion-IsIn (λ (index : IndexDef). is_some (column_place index.column t.definition.columns) ≡ true) t.indexes i
        (recursion_from_All (λ (index : IndexDef). is_some (column_place index.column t.definition.columns) ≡ true) t.indexes limits.there) is_there)

    free : is_some (index_named i.name (having before).schema) ≡ false
    free =
        let so_far : indexes_of (tables_with before) ≡ indexes_of front ++ before =
        indexes_of-append front (table_with before ∷ bare behind)
        ∙ ap (λ l. indexes_of front ++ (before ++ l)) (none_of_bare behind) ∙ ap (λ l. indexes_of front ++ l) (append-nil before) in
        let all : indexes_of (front ++ t ∷ behind) ≡ (indexes_of front ++ before) ++ i ∷ (left ++ indexes_of behind) =
        indexes_of-append front (t ∷ behind) ∙ ap (λ l. indexes_of front ++ (l ++ indexes_of behind)) whole
        ∙ ap (λ l. indexes_of front ++ l) (append_assoc before (i ∷ left) (indexes_of behind))
        ∙ sym (append_assoc (indexes_of front) before (i ∷ (left ++ indexes_of behind))) in
        not_found (λ (index : IndexDef). same_name i.name index.name) (indexes_of (tables_with before))
        (ap (is_taken i.name) so_far
        ∙ free_before (indexes_of front ++ before) i (left ++ indexes_of behind) (sym (ap has_duplicate_indexes all) ∙ apart))

    room : leb 16 (length before) ≡ false
    room = lt-leb 16 (length before) (omega (arith, limits.few, ap length whole, length-append before (i ∷ left)))

    due : first_refusal (conditions (command.Define (define.Index i)) (having before)) ≡ None
    due =
        let columns = passing (λ u. is_none (column_place i.column u.definition.columns)) column in
        let limit = passing (λ u. leb 16 (length u.indexes)) room in
        λ k. cond (lacking k) (Some NoSuchTable) (cond (columns k) (Some NoSuchColumn) (cond (free k) (Some NameTaken) (cond (limit k) (Some TooMany) None)))

    after_is : state_after (command.Define (define.Index i)) (having before) ≡ having (before ++ i ∷ [])
    after_is =
        let lack_front : LackName i.table front =
        subst (λ name. LackName name front) (sym its_table) (lack_before front (table_with before) (bare behind) (still_distinct before)) in
        let lack_others : LackName i.table (bare behind) =
        subst (λ name. LackName name (bare behind)) (sym its_table) (lack_behind front (table_with before) (bare behind) (still_distinct before)) in
        let same : same_name i.table (name_of t) ≡ true = ap (λ name. same_name name (name_of t)) its_table ∙ same_name_refl (name_of t) in
        ap (λ l. state_of l rows)
        (map-append (table_with_index i) front (table_with before ∷ bare behind)
        ∙ (λ k. others_stay i front lack_front k
        ++ cond (same k) (table_with (before ++ i ∷ [])) (table_with before) ∷ others_stay i (bare behind) lack_others k))

    indexed : (step (command.Define (define.Index i)) (having before)).state ≡ having (before ++ i ∷ [])
    indexed = step_done (command.Define (define.Index i)) (having before) due ∙ after_is

  -- Indexes one after another.
  pub table_indexed : (before left : List IndexDef) → t.indexes ≡ before ++ left
      → after_all (commands_of (map (λ (index : IndexDef). entry.Index index) left)) (having before) ≡ having t.indexes
  table_indexed before [] whole = ap having (sym (whole ∙ append-nil before))
  table_indexed before (i ∷ is) whole =
      ap (after_all (commands_of (map (λ (index : IndexDef). entry.Index index) is))) (indexed before i is whole)
      ∙ table_indexed (before ++ i ∷ []) is (whole ∙ sym (append_assoc before (i ∷ []) is))

-- ---- the indexes of all tables

pub all_indexed : (front tables : List Table) (rows : Instance) → AreDistinct (front ++ tables) → AllByRecursion HasOwnIndexes tables
    → AllByRecursion HasIndexLimits tables → has_duplicate_indexes (indexes_of (front ++ tables)) ≡ false
    → after_all (commands_of (index_entries tables)) (state_of (front ++ bare tables) rows) ≡ state_of (front ++ tables) rows
all_indexed front [] rows distinct own limits apart = refl
all_indexed front (t ∷ ts) rows distinct own limits apart =
    let start = state_of (front ++ bare (t ∷ ts)) rows in
    let one = map (λ (index : IndexDef). entry.Index index) t.indexes in
    let others = index_entries ts in
    let tables_are : (front ++ t ∷ []) ++ ts ≡ front ++ t ∷ ts = append_assoc front (t ∷ []) ts in
    let here : after_all (commands_of one) start ≡ state_of (front ++ t ∷ bare ts) rows =
    table_indexed front t ts rows distinct (recursion_from_All (λ (index : IndexDef). index.table ≡ name_of t) t.indexes own.0) limits.0 apart []
    t.indexes refl in
    ap (λ es. after_all (commands_of es) start) (map-append (λ (index : IndexDef). entry.Index index) t.indexes (indexes_of ts))
    ∙ ap (λ cs. after_all cs start) (map-append entry_command one others) ∙ after_both (commands_of one) (commands_of others) start
    ∙ ap (after_all (commands_of others)) (here ∙ ap (λ l. state_of l rows) (sym (append_assoc front (t ∷ []) (bare ts))))
    ∙ all_indexed (front ++ t ∷ []) ts rows (subst AreDistinct (sym tables_are) distinct) own.1 limits.1
    (ap (λ l. has_duplicate_indexes (indexes_of l)) tables_are ∙ apart)
    ∙ ap (λ l. state_of l rows) tables_are
