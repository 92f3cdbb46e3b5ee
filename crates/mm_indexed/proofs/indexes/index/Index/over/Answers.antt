use Rattle.mm_partition.specs.Places.{slot_at}
use Rattle.mm_indexed.proofs.Building.{wide_refs}
use Rattle.mm_indexed.proofs.indexes.index.Index.over.Goals as goal

pub sorted_refs-requires-clause-wide : goal.sorted_refs-requires-clause-wide
sorted_refs-requires-clause-wide c =
    wide_refs c.args.rows.now.types c.args.column c.args.key (slot_at c.args.rows.now) c.args.refs.now c.have_types.ensures c.requires.column c.requires.key
    c.requires.live
