use Rattle.mm_order.proofs.Ordered.{IsPermutation-added}
use Rattle.mm_partition.specs.Places.{slot_at}
use Rattle.mm_row_order.specs.Refs.{refs_by}
use Rattle.mm_indexed.proofs.Entries.{apart_compared, wide_from}
use Rattle.mm_indexed.proofs.indexes.tree_entries.insert.Goals as goal

pub put-requires-clause-wide : goal.put-requires-clause-wide
put-requires-clause-wide c =
    wide_from c.args.rows.now.types c.args.column c.args.key (slot_at c.args.rows.now) c.args.at c.requires.live (c.have_types.ensures c.args.at)
    c.requires.column c.requires.key

pub put-requires-clause-apart : goal.put-requires-clause-apart
put-requires-clause-apart c = apart_compared c.args.column c.args.key (slot_at c.args.rows.now) c.args.at c.args.tree.now.refs c.requires.absent

pub returns-clause-refs : goal.returns-clause-refs
returns-clause-refs c =
    IsPermutation-added (refs_by c.args.column c.args.key (slot_at c.args.rows.now)) c.args.tree.now.refs c.args.at c.put.new.tree.refs c.put.ensures.refs
