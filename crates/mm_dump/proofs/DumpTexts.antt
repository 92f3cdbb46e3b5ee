-- The bytes of a dump are those of its entries, and all entries fit lines.
use Rattle.std.proofs.Common.{◌≡◌, ◌≢◌, ◌≤◌, ℕ, false, cond, List, [], ◌∷◌, ◌++◌, Option, Some, length, map, refl, sym, ap, ◌∙◌, subst}
use Rattle.std.proofs.Common.{arith}
use Rattle.std.specs.Prelude.{All}
use Rattle.std.specs.List.{AllByRecursion, AllZip, IsDistinct, flat_map}
use Rattle.std.specs.Option.{option_map_or}
use Rattle.std.proofs.lemmas.Bool.{ltb-false, or_parts}
use Rattle.std.proofs.lemmas.List.Concat.{flat_map-append}
use Rattle.std.proofs.lemmas.List.Elements.{All-append, All-from_recursion, All-map, recursion_from_All}
use Rattle.std.proofs.lemmas.Map.Keys.{IsDistinct-head, IsDistinct-tail}
use Rattle.mm_value.specs.Storable.{AreStorable}
use Rattle.mm_value.specs.declared.values.Value.{Value}
use Rattle.mm_schema.specs.Indexes.{indexes_of}
use Rattle.mm_schema.specs.Instance.{Instance, rows_named}
use Rattle.mm_schema.specs.Name.{IsName, same_name}
use Rattle.mm_schema.specs.Schema.{Schema, table_conditions}
use Rattle.mm_schema.specs.declared.column.Column.{Column}
use Rattle.mm_schema.specs.declared.index.IndexDef.{IndexDef}
use Rattle.mm_schema.specs.declared.standing.StandingDef.{StandingDef}
use Rattle.mm_schema.specs.declared.table.Table.{Table}
use Rattle.mm_schema.proofs.Instances.{AreBeside as AreRowsBeside, name_of}
use Rattle.mm_schema.proofs.NameLemmas.{differs_back, same_name_refl}
use Rattle.mm_schema.proofs.StandingLemmas.{names_of}
use Rattle.mm_query.specs.Standing.{AreBeside, query_named}
use Rattle.mm_query.specs.State.{State}
use Rattle.mm_query.specs.declared.bound_query.BoundQuery.{BoundQuery}
use Rattle.mm_query.proofs.PlacedQueries.{none_hold}
use Rattle.mm_laws.specs.Typing.{AreTyped, HasTypes}
use Rattle.mm_lang.specs.QueryText.{named_query}
use Rattle.mm_dump.specs.DumpText.{dump_text, rows_script, watch_script}
use Rattle.mm_dump.specs.Dumps.{AreGroups, FitsIfMany, Groups, IsDump, index_entries, rows_entries, script_of, table_entries, watch_entries}
use Rattle.mm_dump.specs.Entries.{Entry, FitsLine, IsPrintable, entry_text}
use Rattle.mm_dump.specs.Entries as entry
use Rattle.mm_dump.specs.Inserts.{put_texts}
use Rattle.mm_dump.specs.Texts.{insert_text, watch_text}
use Rattle.mm_dump.specs.Writable.{IsWritableState}
use Rattle.mm_dump.proofs.Fitting.{index_fits, row_fits, table_fits}
use Rattle.mm_dump.proofs.Found.{AreDistinct}
use Rattle.mm_dump.proofs.Grouped.{groups_fit, rows_in_lines}
use Rattle.mm_dump.proofs.Restorable.{AreCreatable, without_indexes}

abbrev Row : Type 0
Row = List Value

-- ---- rows

script_of-append : (es fs : List Entry) → script_of (es ++ fs) ≡ script_of es ++ script_of fs
script_of-append es fs = flat_map-append (λ (e : Entry). entry_text e ++ 10 ∷ []) es fs

groups_script : (table : List ℕ) (groups : Groups)
    → script_of (map (entry.Rows table) groups) ≡ flat_map (λ (group : List Row). insert_text table group ++ 10 ∷ []) groups
groups_script table [] = refl
groups_script table (g ∷ gs) = ap (λ l. (insert_text table g ++ 10 ∷ []) ++ l) (groups_script table gs)

-- Each INSERT of several rows fits a line.
abbrev AreShort : List Table → List Groups → Type 0
AreShort tables groups = AllZip (λ (t : Table) (gs : Groups). AllByRecursion (FitsIfMany (name_of t)) gs) tables groups

-- The INSERT lines of the rows of tables with these names.
abbrev lines_of_tables : List Table → Instance → List Table → List ℕ
lines_of_tables tables rows listed = flat_map (λ (t : Table). put_texts (name_of t) (rows_named (name_of t) tables rows)) listed

-- The rows of the first table have no other name.
lines_behind : (t : Table) (ts : List Table) (r : List Row) (rs : Instance) (listed : List Table)
    → AllByRecursion (λ other. same_name (name_of t) other ≡ false) (map name_of listed)
    → lines_of_tables (t ∷ ts) (r ∷ rs) listed ≡ lines_of_tables ts rs listed
lines_behind t ts r rs [] others = refl
lines_behind t ts r rs (u ∷ us) others =
    let other = differs_back (name_of t) (name_of u) others.0 in
    λ i. put_texts (name_of u) (cond (other i) r (rows_named (name_of u) ts rs)) ++ lines_behind t ts r rs us others.1 i

record AreRowLines (tables : List Table) (rows : Instance) : Type 0 where
  groups : List Groups
  are : AllZip AreGroups rows groups
  short : AreShort tables groups
  text_is : lines_of_tables tables rows tables ≡ script_of (rows_entries tables groups)

row_lines : (tables : List Table) (rows : Instance) → AreRowsBeside tables rows → AreDistinct tables → AreRowLines tables rows
row_lines [] [] beside distinct = record { groups = []; are = tt; short = tt; text_is = refl }
row_lines (t ∷ ts) (r ∷ rs) beside distinct =
    let lines = rows_in_lines (name_of t) r in
    let others = row_lines ts rs beside (IsDistinct-tail same_name (name_of t) (map name_of ts) distinct) in
    let own : put_texts (name_of t) (cond (same_name (name_of t) (name_of t)) r (rows_named (name_of t) ts rs))
    ≡ script_of (map (entry.Rows (name_of t)) lines.groups) =
    ap (λ b. put_texts (name_of t) (cond b r (rows_named (name_of t) ts rs))) (same_name_refl (name_of t)) ∙ lines.text_is
    ∙ sym (groups_script (name_of t) lines.groups) in
    let behind = lines_behind t ts r rs ts (IsDistinct-head same_name (name_of t) (map name_of ts) distinct) ∙ others.text_is in
    record {
      groups = lines.groups ∷ others.groups;
      are = (record { whole = lines.whole; some = All-from_recursion (λ (group : List Row). group ≢ []) lines.groups lines.some }, others.are);
      short = (lines.short, others.short);
      text_is = (λ i. own i ++ behind i) ∙ sym (script_of-append (map (entry.Rows (name_of t)) lines.groups) (rows_entries ts others.groups));
    }
row_lines [] (r ∷ rs) beside distinct = absurd beside
row_lines (t ∷ ts) [] beside distinct = absurd beside

-- ---- standing queries

module _ (schema : Schema) where
  abbrev watch_of : StandingDef → Option BoundQuery → List ℕ
  watch_of s query = option_map_or (λ (q : BoundQuery). watch_text s.name (named_query schema q) ++ 10 ∷ []) query []

  abbrev watches : List StandingDef → List BoundQuery → List StandingDef → List ℕ
  watches standing queries listed = flat_map (λ (s : StandingDef). watch_of s (query_named s.name standing queries)) listed

  -- The first standing query has no other name.
  watches_behind : (s : StandingDef) (ss : List StandingDef) (q : BoundQuery) (qs : List BoundQuery) (listed : List StandingDef)
      → AllByRecursion (λ other. same_name s.name other ≡ false) (names_of listed) → watches (s ∷ ss) (q ∷ qs) listed ≡ watches ss qs listed
  watches_behind s ss q qs [] others = refl
  watches_behind s ss q qs (u ∷ us) others =
      let other = differs_back s.name u.name others.0 in
      λ i. watch_of u (cond (other i) (Some q) (query_named u.name ss qs)) ++ watches_behind s ss q qs us others.1 i

  watch_lines : (standing : List StandingDef) (queries : List BoundQuery) → AreBeside standing queries → IsDistinct same_name (names_of standing)
      → watches standing queries standing ≡ script_of (watch_entries schema standing queries)
  watch_lines [] [] beside distinct = refl
  watch_lines (s ∷ ss) (q ∷ qs) beside distinct =
      let own = ap (λ b. watch_of s (cond b (Some q) (query_named s.name ss qs))) (same_name_refl s.name) in
      let behind = watches_behind s ss q qs ss (IsDistinct-head same_name s.name (names_of ss) distinct)
      ∙ watch_lines ss qs beside.1 (IsDistinct-tail same_name s.name (names_of ss) distinct) in
      λ i. own i ++ behind i
  watch_lines [] (q ∷ qs) beside distinct = absurd beside
  watch_lines (s ∷ ss) [] beside distinct = absurd beside

-- ---- the dump

-- The entries of the bytes of a dump.
pub record AreDumped (state : State) : Type 0 where
  pub entries : List Entry
  pub dump : IsDump state entries
  pub short : AreShort state.schema.tables dump.0
  pub text_is : dump_text state ≡ script_of entries

pub dumped : (state : State) → AreRowsBeside state.schema.tables state.rows → AreDistinct state.schema.tables
    → AreBeside state.schema.standing state.queries → IsDistinct same_name (names_of state.schema.standing) → AreDumped state
unfolding dump_text rows_script watch_script
dumped state beside distinct has names =
    let tables = state.schema.tables in
    let lines = row_lines tables state.rows beside distinct in
    let creates = table_entries tables in
    let inserts = rows_entries tables lines.groups in
    let indexes = index_entries tables in
    let watched = watch_entries state.schema state.schema.standing state.queries in
    record {
      entries = creates ++ (inserts ++ (indexes ++ watched));
      dump = (lines.groups, lines.are, refl);
      short = lines.short;
      text_is = (λ i. script_of creates ++ (lines.text_is i ++ (script_of indexes
          ++ watch_lines state.schema state.schema.standing state.queries has names i)))
          ∙ (λ i. script_of creates ++ (script_of inserts ++ sym (script_of-append indexes watched) i))
          ∙ (λ i. script_of creates ++ sym (script_of-append inserts (indexes ++ watched)) i)
          ∙ sym (script_of-append creates (inserts ++ (indexes ++ watched)));
    }

-- ---- lines

typed_length : (columns : List Column) (row : Row) → HasTypes columns row → length row ≡ length columns
typed_length [] [] typed = refl
typed_length (c ∷ cs) (v ∷ vs) typed = let later = typed_length cs vs typed.1 in omega (arith, later)
typed_length [] (v ∷ vs) typed = absurd typed
typed_length (c ∷ cs) [] typed = absurd typed

-- A table has at most 16 columns.
abbrev HasFew : Table → Type 0
HasFew t = length t.definition.columns ≤ 16

few_columns : (earlier tables : List Table) → AreCreatable earlier tables → AllByRecursion HasFew tables
few_columns earlier [] creatable = tt
few_columns earlier (t ∷ ts) creatable =
    let before : Schema = record { tables = map without_indexes earlier; standing = [] } in
    let hold = none_hold (table_conditions t.definition before) creatable.0 in
    let limits = or_parts _ _ hold.1.1.1.0 in
    (ltb-false 16 (length t.definition.columns) limits.1, few_columns (earlier ++ t ∷ []) ts creatable.1)

tables_fit : (tables : List Table) → AllByRecursion (λ (t : Table). IsPrintable (entry.Table t.definition)) tables → AllByRecursion HasFew tables
    → AllByRecursion (λ (t : Table). FitsLine (entry.Table t.definition)) tables
tables_fit [] printable few = tt
tables_fit (t ∷ ts) printable few = (table_fits t.definition printable.0.0 few.0, tables_fit ts printable.1 few.1)

rows_alone : (table : List ℕ) (columns : List Column) → IsName table → length columns ≤ 16 → (rows : List Row) → AllByRecursion (HasTypes columns) rows
    → AllByRecursion AreStorable rows → AllByRecursion (λ (row : Row). length (insert_text table (row ∷ [])) ≤ 4096) rows
rows_alone table columns named few [] typed stored = tt
rows_alone table columns named few (r ∷ rs) typed stored =
    let long = typed_length columns r typed.0 in
    (row_fits table r named stored.0 (omega (arith, few, long)), rows_alone table columns named few rs typed.1 stored.1)

all_rows_fit : (tables : List Table) (rows : Instance) (groups : List Groups)
    → AllByRecursion (λ (t : Table). IsPrintable (entry.Table t.definition)) tables → AllByRecursion HasFew tables → AreTyped tables rows
    → AllByRecursion (λ (l : List Row). All AreStorable l) rows → AllZip AreGroups rows groups → AreShort tables groups
    → All FitsLine (rows_entries tables groups)
all_rows_fit [] [] groups printable few typed stored are short = λ i d within. absurd (omega (arith, within))
all_rows_fit (t ∷ ts) (r ∷ rs) (g ∷ gs) printable few typed stored are short =
    let alone = rows_alone (name_of t) t.definition.columns printable.0.0.0 few.0 r (recursion_from_All (HasTypes t.definition.columns) r typed.0)
    (recursion_from_All AreStorable r stored.0) in
    let fit = groups_fit (name_of t) g short.0
    (subst (AllByRecursion (λ (row : Row). length (insert_text (name_of t) (row ∷ [])) ≤ 4096)) (sym are.0.whole) alone)
    (recursion_from_All (λ (group : List Row). group ≢ []) g are.0.some) in
    All-append FitsLine (map (entry.Rows (name_of t)) g) (rows_entries ts gs)
    (All-map FitsLine (entry.Rows (name_of t)) g (All-from_recursion (λ (group : List Row). length (insert_text (name_of t) group) ≤ 4096) g fit))
    (all_rows_fit ts rs gs printable.1 few.1 typed.1 stored.1 are.1 short.1)
all_rows_fit (t ∷ ts) (r ∷ rs) [] printable few typed stored are short = absurd are
all_rows_fit [] (r ∷ rs) groups printable few typed stored are short = absurd typed
all_rows_fit (t ∷ ts) [] groups printable few typed stored are short = absurd typed

indexes_fit : (indexes : List IndexDef) → AllByRecursion (λ (i : IndexDef). IsPrintable (entry.Index i)) indexes
    → AllByRecursion (λ (i : IndexDef). FitsLine (entry.Index i)) indexes
indexes_fit [] printable = tt
indexes_fit (i ∷ more) printable = (index_fits i printable.0, indexes_fit more printable.1)

-- All entries fit lines.
pub entries_fit : (state : State) (is : AreDumped state) → IsWritableState state → AreCreatable [] state.schema.tables
    → AreTyped state.schema.tables state.rows → All FitsLine is.entries
entries_fit state is writable creatable typed =
    let tables = state.schema.tables in
    let printable = recursion_from_All (λ (t : Table). IsPrintable (entry.Table t.definition)) tables writable.printable.tables in
    let few = few_columns [] tables creatable in
    let inserts = rows_entries tables is.dump.0 in
    let indexes = index_entries tables in
    let watched = watch_entries state.schema state.schema.standing state.queries in
    subst (All FitsLine) (sym is.dump.2)
    (All-append FitsLine (table_entries tables) (inserts ++ (indexes ++ watched))
    (All-map FitsLine (λ (t : Table). entry.Table t.definition) tables
    (All-from_recursion (λ (t : Table). FitsLine (entry.Table t.definition)) tables (tables_fit tables printable few)))
    (All-append FitsLine inserts (indexes ++ watched)
    (all_rows_fit tables state.rows is.dump.0 printable few typed
    (recursion_from_All (λ (l : List Row). All AreStorable l) state.rows writable.printable.rows) is.dump.1 is.short)
    (All-append FitsLine indexes watched
    (All-map FitsLine (λ (i : IndexDef). entry.Index i) (indexes_of tables)
    (All-from_recursion (λ (i : IndexDef). FitsLine (entry.Index i)) (indexes_of tables)
    (indexes_fit (indexes_of tables)
    (recursion_from_All (λ (i : IndexDef). IsPrintable (entry.Index i)) (indexes_of tables) writable.printable.indexes))))
    writable.fit)))
