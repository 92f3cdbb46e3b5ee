use Rattle.std.proofs.Common.{length, drop, arith}
use Rattle.mm_indexed.specs.Index.{Emptied}
use Rattle.mm_indexed.proofs.Turning.{TurnedTo-more, EachTurns-written_back}
use Rattle.mm_indexed.proofs.indexes.clear_all.Goals as goal

pub loop-index-preserved : goal.loop-index-preserved
loop-index-preserved c =
    TurnedTo-more Emptied c.loop-index.index-index c.args.indexes.now.items c.loop-index.index-items c.index-item.result
    c.clear.new.self (omega (arith, c.loop-index.invariant.size)) c.loop-index.invariant c.clear.ensures

pub returns : goal.returns
returns c =
    EachTurns-written_back Emptied c.loop-index.index-index c.args.indexes.now.items c.loop-index.index-items
    (drop (length c.loop-index.index-items) c.args.indexes.now.items) c.args.indexes.now.len c.loop-index.invariant (omega arith) (omega arith)
