-- How many rows queries and changes may read.
use Rattle.std.specs.Prelude.{◌≡◌, ◌⊎◌, ℕ, ◌+◌, ◌*◌, ◌≤◌, List, ◌∷◌, length, map}
use Rattle.std.specs.List.{sum_by}
use Rattle.mm_delta.specs.declared.edited.TableChange.{TableChange}
use Rattle.mm_plan.specs.Choosing.{steps_of}
use Rattle.mm_plan.specs.Kept.{AreKept, instance_of}
use Rattle.mm_plan.specs.Naming.{named_steps, names_of}
use Rattle.mm_plan.specs.Steps.{plan_reads}
use Rattle.mm_plan.specs.declared.step.Step.{Step}
use Rattle.mm_query.specs.Machine.{plan_in}
use Rattle.mm_query.specs.Resolving.{placed_query}
use Rattle.mm_query.specs.State.{State, rows_in}
use Rattle.mm_query.specs.declared.atom.Atom.{Atom}
use Rattle.mm_query.specs.declared.bound_query.Bound.{Bound}
use Rattle.mm_query.specs.declared.bound_query.FieldPlace.{FieldPlace}
use Rattle.mm_query.specs.declared.command.Command.{Command}
use Rattle.mm_query.specs.declared.command.Command.TheVariants.{Change, Select}
use Rattle.mm_query.specs.declared.command.Mutation.{Mutation}
use Rattle.mm_query.specs.declared.query.FromItem.{FromItem}
use Rattle.mm_query.specs.declared.query.Query.{Query}
use Rattle.mm_select.specs.Fitting.{fitting}
use Rattle.mm_standing.specs.Queries.{StandingQuery}
use Rattle.mm_standing.specs.Reads.{AreOfCyclicRows, RowTests, query_reads}
use Rattle.mm_store.specs.Tables.{Tables, rows_at}
use Rattle.mm_value.specs.declared.values.Value.{Value}
use Rattle.mm_txn.specs.Listed.{ArePlaced, queries_of}
use Rattle.mm_txn.specs.PlacedEdits.{AreEditsOf, PlacedEdits, placed_change}

-- The number of rows of all matching combinations, from which the rows of the result are computed.
abbrev pub shown_reads : List (Atom FieldPlace) → List (List (List Value)) → ℕ
shown_reads atoms tables = length (fitting atoms tables) * length tables

-- The number of rows that these steps may read, and then those of each matching combination.
abbrev pub select_reads : List (Atom FieldPlace) → List Step → List (List (List Value)) → ℕ
select_reads atoms steps tables = plan_reads atoms steps tables + shown_reads atoms tables

-- The rows of each table of FROM.
abbrev pub from_rows : Query → State → List (List (List Value))
from_rows query state = map (λ (item : FromItem). rows_in state item.table) query.from

-- At most as many rows are read for a query as its plan allows: as steps whose names are the lines of EXPLAIN.
pub record ReadsByPlan (query : Query) (state : State) (reads : ℕ) : Type 0 where
  pub steps : List Step
  pub plan : named_steps (names_of state.schema query.from) (placed_query state.schema query).atoms steps ≡ plan_in state query
  pub within : reads ≤ select_reads (placed_query state.schema query).atoms steps (from_rows query state)

-- The number of rows read for the lists of standing queries is at most the sum of each list's bound for these changes of tables. Edited
-- rows that a cycle shows to be irrelevant are left out.
abbrev pub AreListReads : Tables → List TableChange → List StandingQuery → ℕ → Type 0
AreListReads store changes queries reads =
    (skipped : RowTests) → AreOfCyclicRows skipped → reads ≤ sum_by (query_reads store changes skipped) queries

-- The reads for the lists are within the bounds for these edits of tables, or are 0.
abbrev pub ReadsForLists : Tables → List PlacedEdits → List StandingQuery → ℕ → Type 0
ReadsForLists store edits queries reads =
    (reads ≡ 0) ⊎ ((changes : List TableChange) × (map placed_change changes ≡ edits) × AreListReads store changes queries reads)

-- The lists of the standing queries read no more rows than the edits of a change allow, over some store with the tables of the catalog and
-- the rows.
pub record ReadsByEdits (mutation : Mutation) (state : State) (reads : ℕ) : Type 0 where
  pub store : Tables
  pub own : PlacedEdits
  pub cascaded : List PlacedEdits
  pub queries : List StandingQuery
  pub kept : AreKept state.schema store
  pub rows : instance_of store.tables ≡ state.rows
  pub edits : AreEditsOf mutation state.schema store own cascaded
  pub placed : ArePlaced state.schema queries
  pub listed : queries_of queries ≡ state.queries
  pub within : ReadsForLists store (own ∷ cascaded) queries reads

-- The reads of a query are within its plan, and those of a change of rows within its edits; both are 0 if the catalog refuses the command.
-- No other command reads a row that is counted.
abbrev pub CommandReads : Command → State → ℕ → Type 0
CommandReads (Select query) state reads = (reads ≡ 0) ⊎ ReadsByPlan query state reads
CommandReads (Change mutation) state reads = (reads ≡ 0) ⊎ ReadsByEdits mutation state reads
CommandReads command state reads = reads ≡ 0

-- ---- over a store

-- The rows of the tables of a bound query.
abbrev pub bound_rows : Tables → Bound → List (List (List Value))
bound_rows store bound = map (rows_at store.tables) bound.tables

-- The steps of a bound query.
abbrev pub bound_steps : Tables → Bound → List Step
bound_steps store bound = steps_of store bound.query.atoms bound.tables
