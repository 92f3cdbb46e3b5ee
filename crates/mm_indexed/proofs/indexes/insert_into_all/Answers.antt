use Rattle.std.proofs.Common.{length, drop, arith}
use Rattle.mm_partition.specs.Places.{slot_at}
use Rattle.mm_indexed.specs.Stays.{Inserts}
use Rattle.mm_indexed.proofs.Turning.{TurnedTo-more, EachTurns-written_back}
use Rattle.mm_indexed.proofs.indexes.insert_into_all.Goals as goal

pub loop-index-preserved : goal.loop-index-preserved
loop-index-preserved c =
    TurnedTo-more (Inserts c.args.key (slot_at c.args.rows.now) c.args.at c.args.other) c.loop-index.index-index
    c.args.indexes.now.items c.loop-index.index-items c.index-item.result c.insert.new.self
    (omega (arith, c.loop-index.invariant.size)) c.loop-index.invariant c.insert.ensures

pub returns : goal.returns
returns c =
    EachTurns-written_back (Inserts c.args.key (slot_at c.args.rows.now) c.args.at c.args.other) c.loop-index.index-index
    c.args.indexes.now.items c.loop-index.index-items (drop (length c.loop-index.index-items) c.args.indexes.now.items)
    c.args.indexes.now.len c.loop-index.invariant (omega arith) (omega arith)
