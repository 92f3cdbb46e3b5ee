-- Standing queries: the conditions on creating and dropping one, its rows, and the conditions that refuse a change of rows because of
-- standing queries.
use Rattle.std.specs.Prelude.{◌≡◌, ℕ, Bool, ◌||◌, if◌then◌else◌, All, List, [], ◌∷◌, ◌++◌, Option, Some, None, is_some, length, map, nat_le, nat_lt}
use Rattle.std.specs.List.{list_any}
use Rattle.std.specs.Option.{option_map_or}
use Rattle.mm_schema.specs.Name.{same_name}
use Rattle.mm_schema.specs.Refused.{Condition}
use Rattle.mm_schema.specs.Rows.{most_rows}
use Rattle.mm_schema.specs.Standing.{drop_standing_conditions, standing_named, with_standing, without_standing}
use Rattle.mm_schema.specs.declared.standing.StandingDef.{StandingDef}
use Rattle.mm_schema.specs.declared.table.Table.{Table}
use Rattle.mm_value.specs.declared.refusal.Refusal.TheVariants.{NameTaken, StandingListTooLarge, TooMany}
use Rattle.mm_value.specs.declared.values.Value.{Value}
use Rattle.mm_query.specs.Queries.{bag}
use Rattle.mm_query.specs.Resolving.{IsQueryWithin, answer_in, ill_formed_conditions, missing_conditions, exceeds_query_limits, placed_query}
use Rattle.mm_query.specs.State.{State, rows_in}
use Rattle.mm_query.specs.declared.bound_query.BoundQuery.{BoundQuery}
use Rattle.mm_query.specs.declared.listing.Listing.{Listing}
use Rattle.mm_query.specs.declared.query.FromItem.{FromItem}
use Rattle.mm_query.specs.declared.query.Query.{Query}

-- ---- bound queries of the catalog

-- The tables that a query reads, in the order of FROM, with repetitions.
abbrev pub tables_read : BoundQuery → List (List ℕ)
tables_read query = map (λ (item : FromItem). item.table) query.from

-- There is one bound query for each standing query of the catalog, in the same order, and it reads the tables that the catalog lists.
abbrev pub AreBeside : List StandingDef → List BoundQuery → Type 0
AreBeside [] [] = Unit {0}
AreBeside (standing ∷ others) (query ∷ queries) = (tables_read query ≡ standing.tables) × AreBeside others queries
AreBeside [] (query ∷ queries) = ⊥
AreBeside (standing ∷ others) [] = ⊥

-- The state has one bound query for each standing query, and no others.
abbrev pub HasQueries : State → Type 0
HasQueries state = AreBeside state.schema.standing state.queries

-- All tables and columns of the standing queries exist.
abbrev pub AreBound : State → Type 0
AreBound state = All (IsQueryWithin state.schema) state.queries

-- The bound query of the standing query with a name.
abbrev pub query_named : List ℕ → List StandingDef → List BoundQuery → Option BoundQuery
query_named name (standing ∷ others) (query ∷ queries) = if same_name name standing.name then Some query else query_named name others queries
query_named name (standing ∷ others) [] = None
query_named name [] queries = None

-- The bound queries of all standing queries except the one with a name, in order.
abbrev pub without_query : List ℕ → List StandingDef → List BoundQuery → List BoundQuery
without_query name (standing ∷ others) (query ∷ queries) =
    if same_name name standing.name then without_query name others queries else query ∷ without_query name others queries
without_query name (standing ∷ others) [] = []
without_query name [] queries = []

-- ---- the limit of combinations

-- Too many combinations match a query in a state.
abbrev pub outgrows : State → BoundQuery → Bool
outgrows state query = nat_lt most_rows (length (bag query (rows_in state)))

-- The conditions that refuse a change of rows because of the standing queries after it.
abbrev pub growth_conditions : State → List Condition
growth_conditions after = record { holds = list_any (outgrows after) after.queries; refusal = StandingListTooLarge } ∷ []

-- ---- creation

-- The conditions that refuse a new standing query, in the order of refusals. There are at most 32.
abbrev pub watch_conditions : List ℕ → Query → State → List Condition
watch_conditions name query state =
    missing_conditions query state.schema
    ++ record { holds = is_some (standing_named name state.schema); refusal = NameTaken }
    ∷ ill_formed_conditions query state.schema
    ++ record { holds = exceeds_query_limits query || nat_le 32 (length state.schema.standing); refusal = TooMany }
    ∷ record { holds = outgrows state (placed_query state.schema query); refusal = StandingListTooLarge }
    ∷ []

-- The state after a standing query is appended. Its query is bound once.
abbrev pub after_watch : List ℕ → Query → State → State
after_watch name query state =
    let bound = placed_query state.schema query in
    record state {
      schema = with_standing (record { name = name; tables = tables_read bound }) state.schema;
      queries = state.queries ++ bound ∷ [];
    }

-- ---- dropping

-- The conditions that refuse dropping or showing the standing query with a name.
abbrev pub unwatch_conditions : List ℕ → State → List Condition
unwatch_conditions name state = drop_standing_conditions name state.schema

-- The state without the standing query with a name; the others keep their order.
abbrev pub after_unwatch : List ℕ → State → State
after_unwatch name state =
    record state { schema = without_standing name state.schema; queries = without_query name state.schema.standing state.queries }

-- ---- rows and listings

-- The rows of the standing query with a name: those that its query returns in the current state, in order.
abbrev pub shown_rows : List ℕ → State → List (List Value)
shown_rows name state = option_map_or (answer_in state) (query_named name state.schema.standing state.queries) []

-- The listing of the catalog: each table with its number of rows, and the name of each standing query with its number of rows.
abbrev pub listing : State → Listing
listing state = record {
  tables = map (λ (table : Table). record { table = table; rows = length (rows_in state table.definition.name) }) state.schema.tables;
  standing = map (λ (query : StandingDef). record { name = query.name; rows = length (shown_rows query.name state) }) state.schema.standing;
}
