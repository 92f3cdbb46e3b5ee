-- Standing queries, and the contents of their lists (materialized views as counts: Blakeley, Larson and Tompa).
use Rattle.std.specs.Prelude.{◌≡◌, ℕ, ℤ, pos, ◌<◌, ◌≤◌, All, Bool, if◌then◌else◌, List, [], ◌∷◌, Some, length, map, nat_lt, slice_get}
use Rattle.std.specs.List.{list_any}
use Rattle.mm_partition.specs.Types.{HasTypes}
use Rattle.mm_schema.specs.Refused.{Condition}
use Rattle.mm_store.specs.Tables.{Tables}
use Rattle.mm_value.specs.declared.col_type.ColType.{ColType}
use Rattle.mm_value.specs.declared.refusal.Refusal.TheVariants.{StandingListTooLarge}
use Rattle.mm_value.specs.declared.values.Value.{Value}
use Rattle.mm_query.specs.Queries.{bag_of, one_of_each, shown}
use Rattle.mm_query.specs.declared.bound_query.BoundQuery.{BoundQuery}
use Rattle.mm_multiset.specs.Counts.{Entries, count_in, count_of}
use Rattle.mm_schema.specs.Rows.{most_rows}

-- A query, the place in the store of each table of its FROM list, and the types of its fields.
pub record StandingQuery : Type 0 where
  pub query : BoundQuery
  pub tables : List ℕ
  pub types : List ColType

-- The rows of the table at each place.
abbrev pub RowsByPlace : Type 0
RowsByPlace = ℕ → List (List Value)

-- The bag of a standing query over the rows of the tables.
abbrev pub bag_over : RowsByPlace → StandingQuery → List (List Value)
bag_over rows standing = bag_of standing.query (map rows standing.tables)

-- The rows of a standing query over the rows of the tables have the types of its fields.
abbrev pub GivesTyped : RowsByPlace → StandingQuery → Type 0
GivesTyped rows standing = All (HasTypes standing.types) (bag_over rows standing)

-- The count of each row in the entries is its number of occurrences in a list of rows.
abbrev pub IsBagOf : Entries → List (List Value) → Type 0
IsBagOf entries rows = (row : List Value) → count_in row entries ≡ count_of row rows

-- The counts, list by list and row by row, are those of the bags of the standing queries over the rows of the tables.
abbrev pub AreCounts : (ℕ → List Value → ℤ) → RowsByPlace → List StandingQuery → Type 0
AreCounts counts rows queries =
    (list : ℕ) (standing : StandingQuery) → slice_get queries list ≡ Some standing
    → (row : List Value) → counts list row ≡ pos (count_of row (bag_over rows standing))

-- The rows that a query shows of its bag: with DISTINCT one of each row, in the query's order.
abbrev pub shown_of : BoundQuery → List (List Value) → List (List Value)
shown_of query rows = shown query (if query.distinct then one_of_each rows else rows)

-- All tables of a standing query exist, at most 4.
pub record IsServed (store : Tables) (standing : StandingQuery) : Type 0 where
  pub there : All (λ table. table < length store.tables) standing.tables
  pub few : length standing.tables ≤ 4

-- ---- the limit of rows

-- A bag has more than 1,048,576 rows.
abbrev pub is_too_large : List (List Value) → Bool
is_too_large rows = nat_lt most_rows (length rows)

-- The condition that refuses a list because of its number of rows.
abbrev pub list_conditions : List (List Value) → List Condition
list_conditions rows = record { holds = is_too_large rows; refusal = StandingListTooLarge } ∷ []

-- The conditions that refuse a change of tables: over the rows after it the list of a standing query is too large.
abbrev pub change_conditions : RowsByPlace → List StandingQuery → List Condition
change_conditions after queries =
    record { holds = list_any (λ standing. is_too_large (bag_over after standing)) queries; refusal = StandingListTooLarge } ∷ []
