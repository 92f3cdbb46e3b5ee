-- Commands that can be written lead to states that can be written.
use Rattle.std.proofs.Common.{◌≡◌, Bool, true, false, not, ◌&&◌, cond, List, [], ◌∷◌, ◌++◌, None, filter, map, sym, subst}
use Rattle.std.specs.Prelude.{All, IfSome}
use Rattle.std.specs.List.{AllByRecursion, list_any}
use Rattle.std.proofs.lemmas.Bool.{or_parts}
use Rattle.std.proofs.lemmas.List.Elements.{All-filter, All-from_recursion, All-nil, All-push, recursion_from_All}
use Rattle.mm_value.specs.Storable.{AreStorable}
use Rattle.mm_value.specs.declared.refusal.Refusal.TheVariants.{NotInTransaction}
use Rattle.mm_value.specs.declared.values.Value.{Value}
use Rattle.mm_schema.specs.Indexes.{indexes_of, table_with_index, table_without_index}
use Rattle.mm_schema.specs.Instance.{Instance}
use Rattle.mm_schema.specs.Name.{same_name}
use Rattle.mm_schema.specs.Refused.{first_refusal}
use Rattle.mm_schema.specs.Schema.{Schema, is_other_referring_to, reads_table}
use Rattle.mm_schema.specs.declared.index.IndexDef.{IndexDef}
use Rattle.mm_schema.specs.declared.standing.StandingDef.{StandingDef}
use Rattle.mm_schema.specs.declared.table.Table.{Table}
use Rattle.mm_schema.proofs.Dues.{none_here}
use Rattle.mm_schema.proofs.References.{same_with, same_without, second_none}
use Rattle.mm_schema.proofs.StrictOrder.{AllByRecursion-append, AllByRecursion-append_left, AllByRecursion-append_right, AllByRecursion-weaker}
use Rattle.mm_query.specs.Machine.{after_all, after_definition, conditions, definition_conditions, is_of_index, state_after, step}
use Rattle.mm_query.specs.Resolving.{placed_query}
use Rattle.mm_query.specs.Standing.{AreBeside, tables_read, without_query}
use Rattle.mm_query.specs.State.{AreSavedRows, Savepoint, State, first_state, has_transaction}
use Rattle.mm_query.specs.declared.bound_query.BoundQuery.{BoundQuery}
use Rattle.mm_query.specs.declared.command.Command.{Command}
use Rattle.mm_query.specs.declared.command.Command.TheVariants.{Nothing, Define, Change, Scan, ScanIndex, Select, Explain, Show, Tables, Begin, Commit}
use Rattle.mm_query.specs.declared.command.Command.TheVariants.{Rollback, Savepoint as SetSavepoint, RollbackTo}
use Rattle.mm_query.specs.declared.command.Definition.{Definition}
use Rattle.mm_query.specs.declared.command.Definition.TheVariants as define
use Rattle.mm_query.specs.declared.query.Query.{Query}
use Rattle.mm_lang.specs.QueryText.{named_query}
use Rattle.mm_lang.specs.ReplyText.{HasIndexNames}
use Rattle.mm_laws.proofs.StandingQueries.{Stays, all_read_on, none_of_query, none_out, stays_behind, stays_kept, stays_left, unread_beside}
use Rattle.mm_laws.proofs.Throughout.{each_held, gone_back, held_before, held_further, kept_by_step, restored}
use Rattle.mm_dump.specs.Dumps.{watch_entries}
use Rattle.mm_dump.specs.Entries.{Entry, FitsLine, IsPrintable}
use Rattle.mm_dump.specs.Entries as entry
use Rattle.mm_dump.specs.Writable.{AreStorableRows, IsWritable, IsWritableState}
use Rattle.mm_dump.proofs.Asked.{IsAsked, IsSound, named_still, schema_of, sound_after, sound_at_first}
use Rattle.mm_dump.proofs.Named.{query_named_back}
use Rattle.mm_dump.proofs.StorableRows.{AreStored, stored_after, stored_behind, stored_without}

-- ---- tables and their indexes

-- The table can be written, and so can its indexes.
abbrev IsNamed : Table → Type 0
IsNamed table = IsPrintable (entry.Table table.definition) × All HasIndexNames table.indexes

abbrev AreNamed : List Table → Type 0
AreNamed tables = AllByRecursion IsNamed tables

kept_by_filter : {X : Type 0} (P : X → Type 0) (test : X → Bool) (xs : List X) → AllByRecursion P xs → AllByRecursion P (filter test xs)
kept_by_filter P test [] all = tt
kept_by_filter P test (x ∷ xs) all = by (test x) (kept_by_filter P test xs all.1)
  where
    by : (b : Bool) → AllByRecursion P (filter test xs) → AllByRecursion P (cond b (x ∷ filter test xs) (filter test xs))
    by true later = (all.0, later)
    by false later = later

with_index_named : (index : IndexDef) (t : Table) → HasIndexNames index → IsNamed t → IsNamed (table_with_index index t)
with_index_named index t named is = by (same_name index.table t.definition.name)
  where
    by : (b : Bool) → IsNamed (cond b (record t { indexes = t.indexes ++ index ∷ [] }) t)
    by true = (is.0, All-push HasIndexNames t.indexes index is.1 named)
    by false = is

with_indexes_named : (index : IndexDef) (tables : List Table) → HasIndexNames index → AreNamed tables → AreNamed (map (table_with_index index) tables)
with_indexes_named index [] named is = tt
with_indexes_named index (t ∷ ts) named is = (with_index_named index t named is.0, with_indexes_named index ts named is.1)

without_indexes_named : (name : List _) (tables : List Table) → AreNamed tables → AreNamed (map (table_without_index name) tables)
without_indexes_named name [] is = tt
without_indexes_named name (t ∷ ts) is =
    ((is.0.0, All-filter (λ (i : IndexDef). not (same_name name i.name)) HasIndexNames t.indexes is.0.1), without_indexes_named name ts is.1)

-- ---- standing queries

-- The line of an entry can be written.
abbrev IsWrittenEntry : Entry → Type 0
IsWrittenEntry e = IsPrintable e × FitsLine e

abbrev AreWatched : Schema → List StandingDef → List BoundQuery → Type 0
AreWatched schema standing queries = AllByRecursion IsWrittenEntry (watch_entries schema standing queries)

watched_still : (old new : List Table) (out : List _ → Bool) → Stays (schema_of old) (schema_of new) out → (standing : List StandingDef)
    (queries : List BoundQuery) → AllByRecursion (λ query. list_any out (tables_read query) ≡ false) queries → AllByRecursion (IsAsked old) queries
    → AreWatched (schema_of old) standing queries → AreWatched (schema_of new) standing queries
watched_still old new out stays [] queries unread asked is = tt
watched_still old new out stays (s ∷ ss) [] unread asked is = tt
watched_still old new out stays (s ∷ ss) (q ∷ qs) unread asked is = (
  subst (λ (query : Query). IsWrittenEntry (entry.Watch s.name query)) (sym (named_still old new out stays q unread.0 asked.0)) is.0,
  watched_still old new out stays ss qs unread.1 asked.1 is.1,
)

watched_pushed : (schema : Schema) (standing : List StandingDef) (queries : List BoundQuery) (s : StandingDef) (q : BoundQuery)
    → AreBeside standing queries → IsWrittenEntry (entry.Watch s.name (named_query schema q)) → AreWatched schema standing queries
    → AreWatched schema (standing ++ s ∷ []) (queries ++ q ∷ [])
watched_pushed schema [] [] s q beside new is = (new, tt)
watched_pushed schema (t ∷ ts) (p ∷ ps) s q beside new is = (is.0, watched_pushed schema ts ps s q beside.1 new is.1)
watched_pushed schema [] (p ∷ ps) s q beside new is = absurd beside
watched_pushed schema (t ∷ ts) [] s q beside new is = absurd beside

watched_left : (schema : Schema) (name : List _) (standing : List StandingDef) (queries : List BoundQuery) → AreBeside standing queries
    → AreWatched schema standing queries
    → AreWatched schema (filter (λ (s : StandingDef). not (same_name name s.name)) standing) (without_query name standing queries)
watched_left schema name [] [] beside is = tt
watched_left schema name (s ∷ ss) (q ∷ qs) beside is = by (same_name name s.name) (watched_left schema name ss qs beside.1 is.1)
  where
    by : (b : Bool) → AreWatched schema (filter (λ (t : StandingDef). not (same_name name t.name)) ss) (without_query name ss qs)
        → AreWatched schema
        (cond (not b) (s ∷ filter (λ (t : StandingDef). not (same_name name t.name)) ss) (filter (λ (t : StandingDef). not (same_name name t.name)) ss))
        (cond b (without_query name ss qs) (q ∷ without_query name ss qs))
    by true later = later
    by false later = (is.0, later)
watched_left schema name [] (q ∷ qs) beside is = absurd beside
watched_left schema name (s ∷ ss) [] beside is = absurd beside

-- ---- states

-- Each step keeps these properties of a state that can be written.
record IsWritten (state : State) : Type 0 where
  tables : AreNamed state.schema.tables
  rows : AreStored state.rows
  saved : IfSome state.saved (AreSavedRows AreStored)
  watched : AreWatched state.schema state.schema.standing state.queries

written_by_definition : (definition : Definition) (state : State) → first_refusal (definition_conditions definition state) ≡ None
    → IsWritable (Define definition) → IsSound state → IsWritten state → IsWritten (after_definition definition state)
written_by_definition (define.Table definition) state due writable sound is =
    let new : Table = record { definition = definition; indexes = [] } in
    record {
      tables = AllByRecursion-append IsNamed state.schema.tables (new ∷ []) is.tables ((writable, All-nil HasIndexNames), tt);
      rows = stored_behind state.rows is.rows;
      saved = is.saved;
      watched = watched_still state.schema.tables (state.schema.tables ++ new ∷ []) none_out (stays_behind definition state.schema)
          state.schema.standing state.queries (all_read_on state.queries) sound.kept.asked is.watched;
    }
written_by_definition (define.DropTable name) state due writable sound is =
    let unused = or_parts (list_any (is_other_referring_to name) state.schema.tables) (list_any (reads_table name) state.schema.standing)
    (second_none _ _ _ _ _ due) in
    record {
      tables = kept_by_filter IsNamed (λ (t : Table). not (same_name name t.definition.name)) state.schema.tables is.tables;
      rows = stored_without name state.schema.tables state.rows is.rows;
      saved = is.saved;
      watched = watched_still state.schema.tables (filter (λ (t : Table). not (same_name name t.definition.name)) state.schema.tables) (same_name name)
          (stays_left name state.schema) state.schema.standing state.queries (unread_beside name state.schema.standing state.queries sound.has unused.1)
          sound.kept.asked is.watched;
    }
written_by_definition (define.Index index) state due writable sound is = record {
  tables = with_indexes_named index state.schema.tables writable is.tables;
  rows = is.rows;
  saved = is.saved;
  watched = watched_still state.schema.tables (map (table_with_index index) state.schema.tables) none_out
      (stays_kept (table_with_index index) (same_with index) state.schema)
      state.schema.standing state.queries (all_read_on state.queries) sound.kept.asked is.watched;
}
written_by_definition (define.DropIndex name) state due writable sound is = record {
  tables = without_indexes_named name state.schema.tables is.tables;
  rows = is.rows;
  saved = is.saved;
  watched = watched_still state.schema.tables (map (table_without_index name) state.schema.tables) none_out
      (stays_kept (table_without_index name) (same_without name) state.schema)
      state.schema.standing state.queries (all_read_on state.queries) sound.kept.asked is.watched;
}
written_by_definition (define.Watch watched) state due writable sound is =
    let bound = placed_query state.schema watched.query in
    let new : StandingDef = record { name = watched.name; tables = tables_read bound } in
    let again = query_named_back state.schema watched.query (none_of_query watched.name watched.query state due) in
    record {
      tables = is.tables;
      rows = is.rows;
      saved = is.saved;
      watched = watched_pushed state.schema state.schema.standing state.queries new bound sound.has
          (subst (λ (query : Query). IsWrittenEntry (entry.Watch watched.name query)) (sym again) writable) is.watched;
    }
written_by_definition (define.Unwatch name) state due writable sound is = record {
  tables = is.tables;
  rows = is.rows;
  saved = is.saved;
  watched = watched_left state.schema name state.schema.standing state.queries sound.has is.watched;
}

written_by_command : (command : Command) (state : State) → first_refusal (conditions command state) ≡ None → IsWritable command → IsSound state
    → IsWritten state → IsWritten (state_after command state)
written_by_command Nothing state due writable sound is = is
written_by_command (Define definition) state due writable sound is =
    written_by_definition definition state
    (none_here (has_transaction state && not (is_of_index definition)) NotInTransaction (first_refusal (definition_conditions definition state)) due)
    writable sound is
written_by_command (Change mutation) state due writable sound is =
    record { tables = is.tables; rows = stored_after state is.rows mutation due writable; saved = is.saved; watched = is.watched }
written_by_command (Scan table) state due writable sound is = is
written_by_command (ScanIndex index) state due writable sound is = is
written_by_command (Select query) state due writable sound is = is
written_by_command (Explain query) state due writable sound is = is
written_by_command (Show name) state due writable sound is = is
written_by_command Tables state due writable sound is = is
written_by_command Begin state due writable sound is = record {
  tables = is.tables;
  rows = is.rows;
  saved = record { at_begin = is.rows; savepoints = All-nil (λ (s : Savepoint). AreStored s.rows) };
  watched = is.watched;
}
written_by_command Commit state due writable sound is = record { tables = is.tables; rows = is.rows; saved = tt; watched = is.watched }
written_by_command Rollback state due writable sound is = record {
  tables = is.tables;
  rows = restored AreStored state.rows state.saved is.rows is.saved;
  saved = tt;
  watched = is.watched;
}
written_by_command (SetSavepoint name) state due writable sound is = record {
  tables = is.tables;
  rows = is.rows;
  saved = held_further AreStored name state.rows state.saved is.rows is.saved;
  watched = is.watched;
}
written_by_command (RollbackTo name) state due writable sound is = record {
  tables = is.tables;
  rows = gone_back AreStored name state.rows state.saved is.rows is.saved;
  saved = held_before AreStored name state.saved is.saved;
  watched = is.watched;
}

written_by_step : (command : Command) (state : State) → IsWritable command → IsSound state → IsWritten state → IsWritten (step command state).state
written_by_step command state writable sound is =
    kept_by_step IsWritten command state (λ due. written_by_command command state due writable sound is) is

written_at_first : IsWritten first_state
written_at_first = record { tables = tt; rows = tt; saved = tt; watched = tt }

written_after : (commands : List Command) (state : State) → AllByRecursion IsWritable commands → IsSound state → IsWritten state
    → IsWritten (after_all commands state)
written_after [] state writable sound is = is
written_after (c ∷ cs) state writable sound is =
    written_after cs (step c state).state writable.1 (sound_after (c ∷ []) state sound) (written_by_step c state writable.0 sound is)

-- ---- all elements

stored_all : (rows : Instance) → AreStored rows → AreStorableRows rows
stored_all rows is = All-from_recursion (λ (l : List (List Value)). All AreStorable l) rows is

all_stored : (rows : Instance) → AreStorableRows rows → AreStored rows
all_stored rows is = recursion_from_All (λ (l : List (List Value)). All AreStorable l) rows is

indexes_named : (tables : List Table) → AreNamed tables → AllByRecursion HasIndexNames (indexes_of tables)
indexes_named [] is = tt
indexes_named (t ∷ ts) is =
    AllByRecursion-append HasIndexNames t.indexes (indexes_of ts) (recursion_from_All HasIndexNames t.indexes is.0.1) (indexes_named ts is.1)

tables_named : (tables : List Table) → AllByRecursion (λ (t : Table). IsPrintable (entry.Table t.definition)) tables
    → AllByRecursion HasIndexNames (indexes_of tables) → AreNamed tables
tables_named [] tables indexes = tt
tables_named (t ∷ ts) tables indexes = (
  (
    tables.0,
    All-from_recursion HasIndexNames t.indexes (AllByRecursion-append_left HasIndexNames t.indexes (indexes_of ts) indexes),
  ),
  tables_named ts tables.1 (AllByRecursion-append_right HasIndexNames t.indexes (indexes_of ts) indexes),
)

both_written : (es : List Entry) → AllByRecursion IsPrintable es → AllByRecursion FitsLine es → AllByRecursion IsWrittenEntry es
both_written [] printable fit = tt
both_written (e ∷ es) printable fit = ((printable.0, fit.0), both_written es printable.1 fit.1)

written_state : (state : State) → IsWritten state → IsWritableState state
written_state state is =
    let watches = watch_entries state.schema state.schema.standing state.queries in
    record {
      printable = record {
        tables = All-from_recursion (λ (t : Table). IsPrintable (entry.Table t.definition)) state.schema.tables
            (AllByRecursion-weaker (λ (t : Table) (named : IsNamed t). named.0) state.schema.tables is.tables);
        rows = stored_all state.rows is.rows;
        indexes = All-from_recursion (λ (i : IndexDef). IsPrintable (entry.Index i)) (indexes_of state.schema.tables)
            (indexes_named state.schema.tables is.tables);
        queries = All-from_recursion IsPrintable watches (AllByRecursion-weaker (λ (e : Entry) (w : IsWrittenEntry e). w.0) watches is.watched);
      };
      fit = All-from_recursion FitsLine watches (AllByRecursion-weaker (λ (e : Entry) (w : IsWrittenEntry e). w.1) watches is.watched);
      saved = each_held AreStored AreStorableRows stored_all state.saved is.saved;
    }

state_written : (state : State) → IsWritableState state → IsWritten state
state_written state is =
    let watches = watch_entries state.schema state.schema.standing state.queries in
    record {
      tables = tables_named state.schema.tables
          (recursion_from_All (λ (t : Table). IsPrintable (entry.Table t.definition)) state.schema.tables is.printable.tables)
          (recursion_from_All (λ (i : IndexDef). IsPrintable (entry.Index i)) (indexes_of state.schema.tables) is.printable.indexes);
      rows = all_stored state.rows is.printable.rows;
      saved = each_held AreStorableRows AreStored all_stored state.saved is.saved;
      watched = both_written watches (recursion_from_All IsPrintable watches is.printable.queries) (recursion_from_All FitsLine watches is.fit);
    }

-- ---- every state

pub first_writable : IsWritableState first_state
first_writable = written_state first_state written_at_first

pub step_writable : (commands : List Command) (command : Command) → IsWritable command → IsWritableState (after_all commands first_state)
    → IsWritableState (step command (after_all commands first_state)).state
step_writable commands command writable is =
    let state = after_all commands first_state in
    written_state (step command state).state
    (written_by_step command state writable (sound_after commands first_state sound_at_first) (state_written state is))

pub all_writable : (commands : List Command) → All IsWritable commands → IsWritableState (after_all commands first_state)
all_writable commands writable =
    written_state (after_all commands first_state)
    (written_after commands first_state (recursion_from_All IsWritable commands writable) sound_at_first written_at_first)
