-- The number of rows read for standing queries when tables are edited, and the edited rows that are left out.
use Rattle.std.specs.Prelude.{ℕ, All, Bool, List, length}
use Rattle.std.specs.List.{range_with_len, sum_by}
use Rattle.mm_store.specs.Tables.{Tables}
use Rattle.mm_value.specs.declared.values.Value.{Value}
use Rattle.mm_query.specs.declared.bound_query.BoundQuery.{BoundQuery}
use Rattle.mm_delta.specs.Skipping.{IsOfCyclicRows, IsTypeTested}
use Rattle.mm_delta.specs.Steps.{term_reads}
use Rattle.mm_delta.specs.declared.edited.TableChange.{TableChange}
use Rattle.mm_standing.specs.Queries.{StandingQuery}

-- No standing query adds a number to a text, neither of the rows before a change nor of those after it.
abbrev pub AreTypeTested : Tables → List TableChange → List StandingQuery → Type 0
AreTypeTested store changes queries = All (λ (s : StandingQuery). IsTypeTested s.query store changes s.tables) queries

-- For each query, a test of the rows at the places of its FROM.
abbrev pub RowTests : Type 0
RowTests = BoundQuery → ℕ → List Value → Bool

-- Only rows that a cycle shows to be irrelevant pass the tests.
abbrev pub AreOfCyclicRows : RowTests → Type 0
AreOfCyclicRows skipped = (query : BoundQuery) → IsOfCyclicRows query (skipped query)

-- The number of rows that may be read for a standing query when tables are edited: for each edited row at each place of its FROM that row,
-- and its candidates if it is not left out. The edited rows that pass the query's test are left out. None if the query reads no edited
-- table.
abbrev pub query_reads : Tables → List TableChange → RowTests → StandingQuery → ℕ
query_reads store changes skipped standing =
    sum_by (term_reads standing.query store changes standing.tables (skipped standing.query)) (range_with_len 0 (length standing.tables))
