-- The state of the machine: the catalog, the rows of each table (the relational model of Codd), and the standing queries.
use Rattle.std.specs.Prelude.{ℕ, Bool, All, List, [], Option, None, is_some}
use Rattle.std.specs.Option.{option_map_or}
use Rattle.mm_schema.specs.Instance.{Instance, rows_named}
use Rattle.mm_schema.specs.Schema.{Schema}
use Rattle.mm_value.specs.declared.values.Value.{Value}
use Rattle.mm_query.specs.declared.bound_query.BoundQuery.{BoundQuery}

-- The name of a savepoint, and the rows when it was set.
pub record Savepoint : Type 0 where
  pub name : List ℕ
  pub rows : Instance

-- The rows that a transaction can restore: those at BEGIN, and those at each savepoint, latest first.
pub record Saved : Type 0 where
  pub at_begin : Instance
  pub savepoints : List Savepoint

-- A property holds of all rows that a transaction can restore.
pub record AreSavedRows (P : Instance → Type 0) (saved : Saved) : Type 0 where
  pub at_begin : P saved.at_begin
  pub savepoints : All (λ (savepoint : Savepoint). P savepoint.rows) saved.savepoints

-- The tables in order of creation, and the rows of each in key order.
pub record State : Type 0 where
  pub schema : Schema
  pub rows : Instance
  -- The bound query of each standing query of the catalog, in the same order.
  pub queries : List BoundQuery
  -- The rows saved while a transaction is open.
  pub saved : Option Saved

-- The first state has no tables and no standing queries, and no transaction is open.
abbrev pub first_state : State
first_state = record { schema = record { tables = []; standing = [] }; rows = []; queries = []; saved = None }

-- A transaction is open.
abbrev pub has_transaction : State → Bool
has_transaction state = is_some state.saved

-- The savepoints of the open transaction, latest first.
abbrev pub savepoints_of : State → List Savepoint
savepoints_of state = option_map_or (λ (saved : Saved). saved.savepoints) state.saved []

-- The rows of the table with a name.
abbrev pub rows_in : State → List ℕ → List (List Value)
rows_in state name = rows_named name state.schema.tables state.rows
