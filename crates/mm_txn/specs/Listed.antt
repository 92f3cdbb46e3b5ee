-- How the database represents the machine's standing queries: a list for each, as counts of rows.
use Rattle.std.specs.Prelude.{◌≡◌, ◌≤◌, All, List, [], Some, get_or, length, map, slice_index_or}
use Rattle.mm_schema.specs.Instance.{Instance}
use Rattle.mm_schema.specs.Schema.{Schema}
use Rattle.mm_query.specs.Resolving.{IsQueryWithin, places_in}
use Rattle.mm_query.specs.Standing.{AreBeside}
use Rattle.mm_query.specs.declared.bound_query.BoundQuery.{BoundQuery}
use Rattle.mm_laws.specs.Typing.{type_at}
use Rattle.mm_query.specs.Additions.{AddsToNumbers}
use Rattle.mm_standing.specs.Queries.{GivesTyped, RowsByPlace, StandingQuery}
use Rattle.mm_standing.specs.State.{FitNow, Lists}

-- The bound queries of the lists.
abbrev pub queries_of : List StandingQuery → List BoundQuery
queries_of standing = map (λ (s : StandingQuery). s.query) standing

-- The rows of the table at each place, and none if there is no such table.
abbrev pub rows_by_place : Instance → RowsByPlace
rows_by_place rows place = slice_index_or rows place []

-- All tables and columns that a standing query reads exist. Its places are those of the tables that it names, at most 4, and its types are
-- those of the columns that its fields name.
pub record IsPlaced (schema : Schema) (standing : StandingQuery) : Type 0 where
  pub within : IsQueryWithin schema standing.query
  pub places : standing.tables ≡ places_in schema standing.query.from
  pub few : length standing.tables ≤ 4
  pub types : map Some standing.types ≡ map (type_at schema standing.query.from) standing.query.fields

-- Each standing query of the catalog has a list, in the same order.
pub record ArePlaced (schema : Schema) (standing : List StandingQuery) : Type 0 where
  pub beside : AreBeside schema.standing (queries_of standing)
  pub placed : All (IsPlaced schema) standing

-- A standing query has a place for each table of its FROM. Over the rows before a change and over those after it, the query adds no number
-- to a text, and its rows have the types of its fields.
pub record IsTested (old new : RowsByPlace) (standing : StandingQuery) : Type 0 where
  pub whole : length standing.tables ≡ length standing.query.from
  pub before : AddsToNumbers standing.query (λ j. old (get_or standing.tables j 0))
  pub after : AddsToNumbers standing.query (λ j. new (get_or standing.tables j 0))
  pub typed_before : GivesTyped old standing
  pub typed_after : GivesTyped new standing

-- Each list has exactly the rows of its query over these rows of the tables, and nothing is prepared.
pub record AreListed (rows : Instance) (lists : Lists) : Type 0 where
  pub fits : FitNow (rows_by_place rows) lists
  pub ready : lists.prepared ≡ []
