use Rattle.std.proofs.lemmas.List.Elements.{All-contains}
use Rattle.mm_order.proofs.Ordered.{IsPermutation-added}
use Rattle.mm_partition.specs.Places.{slot_at}
use Rattle.mm_row_order.specs.Refs.{IsWide, refs_by}
use Rattle.mm_indexed.proofs.Entries.{absent_after, on_true}
use Rattle.mm_indexed.proofs.indexes.tree_entries.remove.Goals as goal

pub take-requires-clause-wide : goal.take-requires-clause-wide
take-requires-clause-wide c =
    All-contains (IsWide c.args.column c.args.key (slot_at c.args.rows.now)) c.args.tree.now.refs c.args.at c.requires.ordered.covered c.requires.held

pub returns-clause-refs : goal.returns-clause-refs
returns-clause-refs c =
    IsPermutation-added (refs_by c.args.column c.args.key (slot_at c.args.rows.now)) c.take.new.tree.refs c.args.at c.args.tree.now.refs
    (on_true _ c.take.result (c.take.ensures.held.1 c.requires.held) c.take.ensures.taken)

pub returns-clause-absent : goal.returns-clause-absent
returns-clause-absent c =
    absent_after c.args.column c.args.key (slot_at c.args.rows.now) c.args.at c.take.new.tree.refs c.args.tree.now.refs
    (on_true _ c.take.result (c.take.ensures.held.1 c.requires.held) c.take.ensures.taken)
