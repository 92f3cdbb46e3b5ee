-- The model of a view.
use Rattle.std.specs.Prelude.{ℕ, All}
use Rattle.mm_store.specs.Joined.{IsTable}
use Rattle.mm_store.specs.Tables.{Tables}

-- The store, the number of its rows that were read, and the invariant of each of its tables.
pub record Seen : Type 0 where
  pub store : Tables
  pub reads : ℕ
  pub kept : ∥ All IsTable store.tables ∥₁
