-- The database between two commands, and its listings.
use Rattle.std.specs.Prelude.{ℕ, ◌||◌, Bool, true, false, if◌then◌else◌, List, [], ◌∷◌, ◌++◌, Option, Some, None, is_some, length, nat_le}
use Rattle.mm_schema.specs.Instance.{Instance}
use Rattle.mm_schema.specs.Refused.{Condition}
use Rattle.mm_schema.specs.Schema.{Schema}
use Rattle.mm_schema.specs.Standing.{standing_named}
use Rattle.mm_schema.specs.declared.standing.StandingDef.{StandingDef}
use Rattle.mm_schema.specs.declared.table.Table.{Table}
use Rattle.mm_standing.specs.State.{Lists}
use Rattle.mm_store.specs.Tables.{Tables}
use Rattle.mm_value.specs.declared.refusal.Refusal.{Refusal}
use Rattle.mm_value.specs.declared.refusal.Refusal.TheVariants.{Memory, NameTaken, NoSuchColumn, NoSuchTable, TooMany}
use Rattle.mm_query.specs.Resolving.{ill_formed_conditions, missing_conditions, exceeds_query_limits}
use Rattle.mm_query.specs.Standing.{shown_rows}
use Rattle.mm_query.specs.State.{State, rows_in}
use Rattle.mm_query.specs.declared.listing.ListedQuery.{ListedQuery}
use Rattle.mm_query.specs.declared.listing.ListedTable.{ListedTable}
use Rattle.mm_query.specs.declared.query.Query.{Query}
use Rattle.mm_plan.specs.Kept.{AreKept, instance_of}
use Rattle.mm_txn.specs.Listed.{AreListed, ArePlaced, queries_of}

-- There is a relation for each table of the catalog and a list for each standing query. The lists fit the rows, and no change of them is
-- prepared.
pub record AreAtRest (schema : Schema) (store : Tables) (lists : Lists) : Type 0 where
  pub kept : AreKept schema store
  pub placed : ArePlaced schema lists.queries
  pub listed : AreListed (instance_of store.tables) lists

-- The state outside a transaction, of a catalog and its lists over rows.
abbrev pub listed_state : Schema → Instance → Lists → State
listed_state schema rows lists = record { schema = schema; rows = rows; queries = queries_of lists.queries; saved = None }

-- The state outside a transaction, of a catalog and its lists over the rows of a store.
abbrev pub state_at_rest : Schema → Tables → Lists → State
state_at_rest schema store lists = listed_state schema (instance_of store.tables) lists

-- The listing of a table of a state.
abbrev pub table_listed : State → Table → ListedTable
table_listed state table = record { table = table; rows = length (rows_in state table.definition.name) }

-- The listing of a standing query of a state.
abbrev pub query_listed : State → StandingDef → ListedQuery
query_listed state query = record { name = query.name; rows = length (shown_rows query.name state) }

-- The conditions by which the catalog alone refuses a new standing query, in the order of refusals.
abbrev pub naming_conditions : List ℕ → Query → Schema → List Condition
naming_conditions name query schema =
    missing_conditions query schema
    ++ record { holds = is_some (standing_named name schema); refusal = NameTaken }
    ∷ ill_formed_conditions query schema
    ++ record { holds = exceeds_query_limits query || nat_le 32 (length schema.standing); refusal = TooMany }
    ∷ []

-- The refusal takes precedence over that of a taken name.
abbrev pub comes_before_name : Refusal → Bool
comes_before_name NoSuchTable = true
comes_before_name NoSuchColumn = true
comes_before_name Memory = true
comes_before_name refusal = false

-- The refusal is that of a taken name.
abbrev pub is_name_taken : Option Refusal → Bool
is_name_taken (Some NameTaken) = true
is_name_taken refusal = false

-- The refusal that is due, given that of a query and perhaps one of its name.
abbrev pub earlier_refusal : Refusal → Option Refusal → Refusal
earlier_refusal of_query of_name =
    if comes_before_name of_query then of_query else (if is_name_taken of_name then NameTaken else of_query)
