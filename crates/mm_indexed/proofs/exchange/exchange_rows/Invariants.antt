use Rattle.std.proofs.Common.{◌≡◌, take}
use Rattle.mm_partition.specs.Places.{extent_of, slot_at}
use Rattle.mm_indexed.specs.Exchanges.{ExchangesAll}
use Rattle.mm_indexed.proofs.exchange.exchange_rows.Given as goal

abbrev pub invariant-loop-exchange : goal.invariant-loop-exchange
invariant-loop-exchange l = record {
  exchanged : ExchangesAll (slot_at l.initial.rows) (slot_at l.rows) (take l.exchange-index l.exchanges);
  room : l.rows.room ≡ l.initial.rows.room;
  extent : extent_of l.rows ≡ extent_of l.initial.rows;
  types : l.rows.types ≡ l.initial.rows.types;
}
