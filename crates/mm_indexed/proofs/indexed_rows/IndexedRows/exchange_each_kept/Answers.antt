use Rattle.std.proofs.Common.{◌∙◌}
use Rattle.mm_partition.specs.Places.{slot_at}
use Rattle.mm_indexed.proofs.Exchanging.{SameTable-twice, exchanged_more, next_hidden, next_key, next_live}
use Rattle.mm_indexed.proofs.indexed_rows.IndexedRows.exchange_each_kept.Goals as goal

pub exchange_kept-requires-clause-live : goal.exchange_kept-requires-clause-live
exchange_kept-requires-clause-live c =
    next_live (slot_at c.args.self.now.places) (slot_at c.loop-exchange.self.places) c.args.exchanges.now c.loop-exchange.exchange-index _
    c.loop-exchange-test.true c.requires.pairs c.loop-exchange.invariant.exchanged

pub exchange_kept-requires-clause-hidden : goal.exchange_kept-requires-clause-hidden
exchange_kept-requires-clause-hidden c =
    next_hidden (slot_at c.args.self.now.places) (slot_at c.loop-exchange.self.places) c.args.exchanges.now c.loop-exchange.exchange-index _
    c.loop-exchange-test.true c.requires.pairs c.loop-exchange.invariant.exchanged

pub exchange_kept-requires-clause-key : goal.exchange_kept-requires-clause-key
exchange_kept-requires-clause-key c =
    next_key (slot_at c.args.self.now.places) (slot_at c.loop-exchange.self.places) c.args.exchanges.now c.loop-exchange.exchange-index _
    c.loop-exchange-test.true c.requires.pairs c.loop-exchange.invariant.exchanged c.args.self.now.key c.loop-exchange.self.key
    c.loop-exchange.invariant.table.key c.requires.keys

pub loop-exchange-preserved : goal.loop-exchange-preserved
loop-exchange-preserved c =
    let old = slot_at c.args.self.now.places in
    let mid = slot_at c.loop-exchange.self.places in
    let i = c.loop-exchange.exchange-index in
    let was = c.loop-exchange.invariant in
    let live = next_live old mid c.args.exchanges.now i _ c.loop-exchange-test.true c.requires.pairs was.exchanged in
    let hidden = next_hidden old mid c.args.exchanges.now i _ c.loop-exchange-test.true c.requires.pairs was.exchanged in
    let changes = c.exchange_kept.ensures.exchanged live.0 hidden.0 live.1 hidden.1 in
    record {
      exchanged =
          exchanged_more old mid c.args.exchanges.now i _ c.loop-exchange-test.true c.requires.pairs was.exchanged
          (slot_at c.exchange_kept.new.self.places) live.0 hidden.0 live.1 hidden.1 changes.first changes.second changes.others;
      room = c.exchange_kept.ensures.room ∙ was.room;
      extent = c.exchange_kept.ensures.extent ∙ was.extent;
      table = SameTable-twice i 1 c.args.self.now c.loop-exchange.self c.exchange_kept.new.self was.table c.exchange_kept.ensures.table;
    }
