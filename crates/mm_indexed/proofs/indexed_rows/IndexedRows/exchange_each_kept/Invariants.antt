use Rattle.std.proofs.Common.{◌≡◌, take}
use Rattle.mm_partition.specs.Places.{extent_of, slot_at}
use Rattle.mm_indexed.specs.Exchanges.{ExchangesAll}
use Rattle.mm_indexed.specs.Kept.{SameTable}
use Rattle.mm_indexed.proofs.indexed_rows.IndexedRows.exchange_each_kept.Given as goal

-- the pairs so far have changed places
abbrev pub invariant-loop-exchange : goal.invariant-loop-exchange
invariant-loop-exchange l = record {
  exchanged : ExchangesAll (slot_at l.initial.self.places) (slot_at l.self.places) (take l.exchange-index l.exchanges);
  room : l.self.places.room ≡ l.initial.self.places.room;
  extent : extent_of l.self.places ≡ extent_of l.initial.self.places;
  table : SameTable 0 l.exchange-index l.initial.self l.self;
}
