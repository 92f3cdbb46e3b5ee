use Rattle.std.proofs.Common.{refl}
use Rattle.mm_partition.specs.Places.{slot_at}
use Rattle.mm_indexed.proofs.Exchanging.{agree_all, agree_more}
use Rattle.mm_indexed.proofs.exchange.agree_in.Goals as goal

pub loop-exchange-preserved : goal.loop-exchange-preserved
loop-exchange-preserved c =
    agree_more c.args.column (slot_at c.args.rows.now) c.args.exchanges.now c.loop-exchange.exchange-index _ c.loop-exchange-test.true
    c.loop-exchange.invariant c.have_one_value.result c.have_one_value.ensures c.if-not-have_one_value.false

pub returns : goal.returns
returns c = (
  λ yes. agree_all c.args.column (slot_at c.args.rows.now) c.args.exchanges.now c.loop-exchange.exchange-index c.loop-exchange-test.false
      c.loop-exchange.invariant,
  λ agree. refl,
)
