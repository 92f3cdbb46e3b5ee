-- How the database represents the machine's state: a catalog, and a relation for each of its tables.
use Rattle.std.specs.Prelude.{◌≡◌, ℕ, ◌≤◌, List, [], None}
use Rattle.mm_plan.specs.Kept.{instance_of}
use Rattle.mm_query.specs.State.{State}
use Rattle.mm_query.specs.declared.bound_query.BoundQuery.{BoundQuery}
use Rattle.mm_indexed.specs.Index.{EachTurns}
use Rattle.mm_indexed.specs.Kept.{StoredRows}
use Rattle.mm_schema.specs.Schema.{Schema}
use Rattle.mm_store.specs.Marks.{KeepsMarks, mark_of}
use Rattle.mm_store.specs.Tables.{SameForm, Tables}

-- The state outside a transaction, of a catalog, the rows of its tables and the queries of its standing queries.
abbrev pub watched_state : Schema → List StoredRows → List BoundQuery → State
watched_state schema stored queries = record { schema = schema; rows = instance_of stored; queries = queries; saved = None }

-- The state outside a transaction, with no standing query.
abbrev pub state_of : Schema → List StoredRows → State
state_of schema stored = watched_state schema stored []

-- Each table keeps its rows, the types of its columns, its key and its indexes, and each older mark still leads to the same rows: at most,
-- rows were staged.
pub record KeepsState (old new : Tables) : Type 0 where
  pub rows : instance_of new.tables ≡ instance_of old.tables
  pub form : EachTurns SameForm old.tables new.tables
  pub links : new.links ≡ old.links
  pub longer : mark_of old ≤ mark_of new
  pub marks : (mark : ℕ) → mark ≤ mark_of old → KeepsMarks old new mark
