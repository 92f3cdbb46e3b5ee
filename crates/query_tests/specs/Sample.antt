-- The tables of the tests.
use Rattle.std.specs.Prelude.{◌≡◌, length}
use Rattle.mm_store.specs.Tables.{Tables}
use Rattle.store_tests.specs.SampleStore.{ArePlain}

-- The store has two tables, each of two integer columns.
pub record IsSample (store : Tables) : Type 0 where
  pub two : length store.tables ≡ 2
  pub plain : ArePlain store
