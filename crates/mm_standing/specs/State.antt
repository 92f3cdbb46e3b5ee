-- The standing queries with their lists.
use Rattle.std.specs.Prelude.{◌≡◌, ℕ, ℤ, pos, All, List, drop, map}
use Rattle.mm_store.specs.Tables.{Tables}
use Rattle.mm_value.specs.declared.values.Value.{Value}
use Rattle.mm_multiset.specs.Counts.{Counts, count_in}
use Rattle.mm_standing.specs.Bags.{count_with, entries_at, types_of}
use Rattle.mm_standing.specs.Queries.{AreCounts, IsServed, RowsByPlace, StandingQuery}
use Rattle.mm_standing.specs.declared.change.RowChange.{RowChange}

-- The standing queries in order of creation, with the bag of rows of each; the prepared changes, and the log of changes that undo the
-- applied ones; and the number of rows read for the last prepared change.
pub record Lists : Type 0 where
  pub queries : List StandingQuery
  pub bags : List Counts
  pub prepared : List RowChange
  pub log : List RowChange
  pub reads : ℕ

-- Each bag has the types of the fields of its query.
abbrev pub AreOfTypes : List StandingQuery → List Counts → Type 0
AreOfTypes queries bags = types_of bags ≡ map (λ (standing : StandingQuery). standing.types) queries

-- The current count of a row of a list.
abbrev pub count_now : Lists → ℕ → List Value → ℤ
count_now lists list row = pos (count_in row (entries_at lists.bags list))

-- The count that a row of a list had at a mark.
abbrev pub count_at : ℕ → ℕ → List Value → Lists → ℤ
count_at mark list row lists = count_with lists.bags (drop mark lists.log) list row

-- The lists have exactly the rows of their queries over the rows of the tables.
abbrev pub FitNow : RowsByPlace → Lists → Type 0
FitNow rows lists = AreCounts (count_now lists) rows lists.queries

-- The lists had exactly the rows of their queries at a mark.
abbrev pub FitAt : ℕ → RowsByPlace → Lists → Type 0
FitAt mark rows lists = AreCounts (λ list row. count_at mark list row lists) rows lists.queries

-- The lists will have exactly the rows of their queries once the prepared changes are applied.
abbrev pub FitPrepared : RowsByPlace → Lists → Type 0
FitPrepared rows lists = AreCounts (λ list row. count_with lists.bags lists.prepared list row) rows lists.queries

-- All tables of the standing queries exist.
abbrev pub AreServed : Tables → List StandingQuery → Type 0
AreServed store queries = All (IsServed store) queries
