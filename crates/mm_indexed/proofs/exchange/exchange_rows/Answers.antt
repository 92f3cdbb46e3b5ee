use Rattle.std.proofs.Common.{◌∙◌}
use Rattle.mm_partition.specs.Places.{slot_at}
use Rattle.mm_indexed.proofs.Exchanging.{exchanged_more, next_hidden, next_live}
use Rattle.mm_indexed.proofs.exchange.exchange_rows.Goals as goal

pub exchange-requires-clause-live : goal.exchange-requires-clause-live
exchange-requires-clause-live c =
    next_live (slot_at c.args.rows.now) (slot_at c.loop-exchange.rows) c.args.exchanges.now c.loop-exchange.exchange-index _
    c.loop-exchange-test.true c.requires c.loop-exchange.invariant.exchanged

pub exchange-requires-clause-hidden : goal.exchange-requires-clause-hidden
exchange-requires-clause-hidden c =
    next_hidden (slot_at c.args.rows.now) (slot_at c.loop-exchange.rows) c.args.exchanges.now c.loop-exchange.exchange-index _
    c.loop-exchange-test.true c.requires c.loop-exchange.invariant.exchanged

pub loop-exchange-preserved : goal.loop-exchange-preserved
loop-exchange-preserved c =
    let old = slot_at c.args.rows.now in
    let mid = slot_at c.loop-exchange.rows in
    let i = c.loop-exchange.exchange-index in
    let was = c.loop-exchange.invariant in
    let live = next_live old mid c.args.exchanges.now i _ c.loop-exchange-test.true c.requires was.exchanged in
    let hidden = next_hidden old mid c.args.exchanges.now i _ c.loop-exchange-test.true c.requires was.exchanged in
    let changes = c.exchange.ensures.exchanged live.0 hidden.0 live.1 hidden.1 in
    record {
      exchanged =
          exchanged_more old mid c.args.exchanges.now i _ c.loop-exchange-test.true c.requires was.exchanged (slot_at c.exchange.new.self)
          live.0 hidden.0 live.1 hidden.1 changes.first changes.second changes.others;
      room = c.exchange.ensures.room ∙ was.room;
      extent = c.exchange.ensures.extent ∙ was.extent;
      types = c.exchange.ensures.types ∙ was.types;
    }
