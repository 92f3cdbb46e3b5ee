-- Rows in use and hidden rows that change places in pairs.
use Rattle.std.specs.Prelude.{◌≡◌, ◌≢◌, ℕ, ◌+◌, ◌≤◌, ◌/◌, ◌⊎◌, true, List, length, All, AllPairs}
use Rattle.mm_value.specs.declared.row_ref.RowRef.{RowRef}
use Rattle.mm_schema.specs.Rows.{most_rows, same_in_column}
use Rattle.mm_partition.specs.Places.{Live, Hidden}
use Rattle.mm_row_order.specs.Refs.{Slots, HasRow, HasHidden, row_at}
use Rattle.mm_indexed.specs.Index.{Keeps, SameIndex, column_of, spare_of}
use Rattle.mm_indexed.specs.Kept.{StoredRows}
use Rattle.mm_indexed.specs.declared.exchange.Exchange.{Exchange}
use Rattle.mm_indexed.specs.declared.indexes.index.Index.{Index}

-- Each pair has a row in use and a hidden row, and no two pairs have a slot in common.
pub record ArePairs (now : Slots) (exchanges : List Exchange) : Type 0 where
  pub live : All (λ e. HasRow now e.at) exchanges
  pub hidden : All (λ e. HasHidden now e.other) exchanges
  pub apart : AllPairs (λ d e. (d.at ≢ e.at) × (d.other ≢ e.other)) exchanges

-- The rows of a pair have changed places: each slot keeps its state.
abbrev pub HasExchanged : Slots → Slots → Exchange → Type 0
HasExchanged old new e = (new e.at ≡ Live (row_at old e.other)) × (new e.other ≡ Hidden (row_at old e.at))

-- The rows of each pair have changed places, and every reference outside the pairs keeps its content.
pub record ExchangesAll (old new : Slots) (exchanges : List Exchange) : Type 0 where
  pub pairs : All (HasExchanged old new) exchanges
  pub others : (r : RowRef) → All (λ e. (e.at ≢ r) × (e.other ≢ r)) exchanges → new r ≡ old r

-- The two rows of each pair have the same value in a column.
abbrev pub AgreeIn : ℕ → Slots → List Exchange → Type 0
AgreeIn column now exchanges = All (λ e. same_in_column column (row_at now e.at) (row_at now e.other) ≡ true) exchanges

-- The index has the same column and kind, and its capacity decreases by at most one entry per pair. It is unchanged and the pairs agree in
-- its column, or it contains these references.
pub record Follows (key : ℕ) (now : Slots) (refs : List RowRef) (exchanges : List Exchange) (old new : Index) : Type 0 where
  pub same : SameIndex old new
  pub spare : spare_of old ≤ spare_of new + length exchanges
  pub entries : ((new ≡ old) × AgreeIn (column_of old) now exchanges) ⊎ Keeps key now refs new

-- This many pairs are enough to rebuild the indexes, and there are any.
pub record IsRebuilt (pairs : ℕ) (rows : StoredRows) : Type 0 where
  pub indexes : 1 ≤ length rows.indexes
  pub many : 32 ≤ pairs
  pub share : length rows.refs / 8 ≤ pairs
  pub few : length rows.refs ≤ most_rows
