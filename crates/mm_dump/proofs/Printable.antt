-- The entries of a dump of a printable state are printable.
use Rattle.std.proofs.Common.{◌≡◌, ◌≢◌, ℕ, List, [], ◌∷◌, ◌++◌, map, sym, subst, arith}
use Rattle.std.specs.Prelude.{All}
use Rattle.std.specs.List.{AllByRecursion, AllZip, flat_map}
use Rattle.std.proofs.lemmas.List.Elements.{All-append, All-from_recursion, All-map, recursion_from_All}
use Rattle.mm_value.specs.Storable.{AreStorable}
use Rattle.mm_value.specs.declared.values.Value.{Value}
use Rattle.mm_schema.specs.Columns.{key_count}
use Rattle.mm_schema.specs.Indexes.{indexes_of}
use Rattle.mm_schema.specs.Instance.{Instance}
use Rattle.mm_schema.specs.declared.column.Column.{Column}
use Rattle.mm_schema.specs.declared.index.IndexDef.{IndexDef}
use Rattle.mm_schema.specs.declared.table.Table.{Table}
use Rattle.mm_schema.proofs.StrictOrder.{AllByRecursion-append_left, AllByRecursion-append_right}
use Rattle.mm_query.specs.State.{State}
use Rattle.mm_laws.specs.Typing.{AreTyped, HasTypes}
use Rattle.mm_dump.specs.Dumps.{AreGroups, Groups, IsDump, IsPrintableState, index_entries, rows_entries, table_entries, watch_entries}
use Rattle.mm_dump.specs.Entries.{Entry, IsPrintable, IsPrintableRow}
use Rattle.mm_dump.specs.Entries as entry

abbrev Row : Type 0
Row = List Value

-- ---- rows

-- A row has a value for the key.
some_values : (columns : List Column) (row : Row) → key_count columns ≡ 1 → HasTypes columns row → row ≢ []
some_values [] row one typed none = let wrong : ◌≡◌ {A = ℕ} 0 1 = one in absurd (omega (arith, wrong))
some_values (c ∷ cs) [] one typed none = typed
some_values (c ∷ cs) (v ∷ vs) one typed none = cc

rows_printable : (columns : List Column) (rows : List Row) → key_count columns ≡ 1 → AllByRecursion (HasTypes columns) rows → AllByRecursion AreStorable rows
    → AllByRecursion IsPrintableRow rows
rows_printable columns [] one typed stored = tt
rows_printable columns (r ∷ rs) one typed stored =
    ((some_values columns r one typed.0, stored.0), rows_printable columns rs one typed.1 stored.1)

-- A property of the rows of all groups holds for those of each.
each_group : (P : Row → Type 0) (groups : Groups) → AllByRecursion P (flat_map (λ (group : List Row). group) groups)
    → AllByRecursion (λ (group : List Row). All P group) groups
each_group P [] all = tt
each_group P (g ∷ gs) all =
    let others = flat_map (λ (group : List Row). group) gs in
    (All-from_recursion P g (AllByRecursion-append_left P g others all), each_group P gs (AllByRecursion-append_right P g others all))

-- ---- entries

module _ (t : Table) (printable : IsPrintable (entry.Table t.definition)) where
  groups_printable : (groups : Groups) → AllByRecursion (λ (group : List Row). group ≢ []) groups
      → AllByRecursion (λ (group : List Row). All IsPrintableRow group) groups → All IsPrintable (map (entry.Rows t.definition.name) groups)
  groups_printable groups some all = All-map IsPrintable (entry.Rows t.definition.name) groups (All-from_recursion _ groups (by groups some all))
    where
      by : (gs : Groups) → AllByRecursion (λ (group : List Row). group ≢ []) gs → AllByRecursion (λ (group : List Row). All IsPrintableRow group) gs
          → AllByRecursion (λ (group : List Row). IsPrintable (entry.Rows t.definition.name group)) gs
      by [] some all = tt
      by (g ∷ gs) some all = ((printable.0.0, some.0, all.0), by gs some.1 all.1)

  table_rows_printable : (rows : List Row) (groups : Groups) → AreGroups rows groups → All (HasTypes t.definition.columns) rows → All AreStorable rows
      → All IsPrintable (map (entry.Rows t.definition.name) groups)
  table_rows_printable rows groups are typed stored =
      let all : AllByRecursion IsPrintableRow rows =
      rows_printable t.definition.columns rows printable.1 (recursion_from_All (HasTypes t.definition.columns) rows typed)
      (recursion_from_All AreStorable rows stored) in
      groups_printable groups (recursion_from_All (λ (group : List Row). group ≢ []) groups are.some)
      (each_group IsPrintableRow groups (subst (AllByRecursion IsPrintableRow) (sym are.whole) all))

all_rows_printable : (tables : List Table) (rows : Instance) (groups : List Groups)
    → AllByRecursion (λ (t : Table). IsPrintable (entry.Table t.definition)) tables → AllByRecursion (λ (l : List Row). All AreStorable l) rows
    → AreTyped tables rows → AllZip AreGroups rows groups → All IsPrintable (rows_entries tables groups)
all_rows_printable [] [] groups printable stored typed zip = λ i d within. absurd (omega (arith, within))
all_rows_printable (t ∷ ts) (r ∷ rs) (g ∷ gs) printable stored typed zip =
    All-append IsPrintable (map (entry.Rows t.definition.name) g) (rows_entries ts gs)
    (table_rows_printable t printable.0 r g zip.0 typed.0 stored.0) (all_rows_printable ts rs gs printable.1 stored.1 typed.1 zip.1)
all_rows_printable (t ∷ ts) (r ∷ rs) [] printable stored typed zip = absurd zip
all_rows_printable [] (r ∷ rs) groups printable stored typed zip = absurd typed
all_rows_printable (t ∷ ts) [] groups printable stored typed zip = absurd typed

pub dump_printable : (state : State) → IsPrintableState state → AreTyped state.schema.tables state.rows → (entries : List Entry) → IsDump state entries
    → All IsPrintable entries
dump_printable state printable typed entries dump =
    let tables = state.schema.tables in
    let inserts = rows_entries tables dump.0 in
    let indexes = index_entries tables in
    let watches = watch_entries state.schema state.schema.standing state.queries in
    subst (All IsPrintable) (sym dump.2)
    (All-append IsPrintable (table_entries tables) (inserts ++ (indexes ++ watches))
    (All-map IsPrintable (λ (t : Table). entry.Table t.definition) tables printable.tables)
    (All-append IsPrintable inserts (indexes ++ watches)
    (all_rows_printable tables state.rows dump.0 (recursion_from_All (λ (t : Table). IsPrintable (entry.Table t.definition)) tables printable.tables)
    (recursion_from_All (λ (l : List Row). All AreStorable l) state.rows printable.rows) typed dump.1)
    (All-append IsPrintable indexes watches (All-map IsPrintable (λ (i : IndexDef). entry.Index i) (indexes_of tables) printable.indexes) printable.queries)))
